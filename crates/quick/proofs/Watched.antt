-- The one test of a line event: a record that agrees with another in the bits FFFC01FCh has its kind and offset, and its lines but
-- for data, parity, REQ and ACK.
use Rattle.std.specs.Prelude.{Some}
use mathlib.Core.Path.{◌≡◌, refl, sym, ◌∙◌, ap}
use mathlib.Core.Bool.{Bool, true, false, not, ◌&&◌, cond, and-not_self}
use Prim.Native.Nat.{ℕ, ◌+◌, ◌*◌, ◌-◌, ◌/◌, ◌%◌, ◌^◌, ◌<◌}
use native.Mathlib.Omega.{arith}
use native.Mathlib.Nat.{div-add-mod'}
use lib.Dec.{eqb}
use borrow.Author.Tests.{lt-ltb}
use lib.Bits.{bit_and, bit_xor, and_block, and_mask, and_high, and_le_l, and_le_r, xor_add_and, xor_shr, xor_mod, xor_lt}
use Rattle.rules.specs.Numbers.{bit}
use Rattle.rules.specs.State.{State}
use Rattle.rules.specs.Changed.{with_ack}
use Rattle.rules.specs.Examples.{bytes_of}
use Rattle.rules.specs.Records.{lines_of, payload_of, well_formed, fields_of, decode}
use Rattle.rules.specs.Step.{step_event, step_decoded, step, access, ended}
use Rattle.rules.specs.declared.records.Lines.{Lines}
use Rattle.rules.specs.declared.records.Event.TheVariants.{Drive}
use Rattle.rules.specs.Rest.{AtRest}
use Rattle.rules.specs.Ranges.{InRange}
use Rattle.rules.specs.declared.codes.Code.TheVariants.{Done}
use Rattle.quick.specs.Ready.{lines_record, line_record}
use Rattle.quick.specs.Facts.{few_watched, all_watched, slow, watch_of}
use Rattle.quick.specs.Beside.{Beside, IsBeside}
use Rattle.quick.proofs.LineRecord.{record_small, record_high, lines_back}
use Rattle.quick.proofs.Stands.{acked, acked_still}
use Rattle.quick.proofs.FewLines.{few, taken, unselected, few_lines}

-- numbers that differ in no bit
xor_none : (a b : ℕ) → bit_xor a b ≡ 0 → a ≡ b
xor_none a b h = omega (arith, xor_add_and a b, and_le_l a b, and_le_r a b)

-- bits 8 to 2 of two numbers, one by one
same_bit : (p q k : ℕ) → p / 2 ^ k % 2 ≡ q / 2 ^ k % 2 → bit p k ≡ bit q k
same_bit p q k e = ap (λ (n : ℕ). eqb n 1) e

pub same_lines : (p q : ℕ) → p / 4 % 128 ≡ q / 4 % 128 → lines_of p ≡ few (lines_of p) (lines_of q)
unfolding lines_of
same_lines p q h =
    λ i.
    record {
      byte = (lines_of p).byte;
      parity = (lines_of p).parity;
      rst = same_bit p q 8 (omega arith) i;
      cd = same_bit p q 7 (omega arith) i;
      io = same_bit p q 6 (omega arith) i;
      msg = same_bit p q 5 (omega arith) i;
      atn = (lines_of p).atn;
      sel = same_bit p q 3 (omega arith) i;
      bsy = same_bit p q 2 (omega arith) i;
      req = (lines_of p).req;
      ack = (lines_of p).ack;
    }

pub record Agree (r q : ℕ) : Type 0 where
  pub high : r / 262144 ≡ q / 262144
  pub low : r / 4 % 128 ≡ q / 4 % 128

-- the mask is 2 ^ 32 - 2 ^ 18 and 2 ^ 9 - 2 ^ 2
module _ (x : ℕ) (fits : x < 4294967296) (h : bit_and x few_watched ≡ 0) where
  split : bit_and x few_watched ≡ bit_and (x / 2 ^ 18) 0x3FFF * 2 ^ 18 + bit_and (x % 2 ^ 18) 0x1FC
  split =
      ap (λ (n : ℕ). bit_and n few_watched) (sym (div-add-mod' x (2 ^ 18)))
      ∙ and_block 18 (x / 2 ^ 18) 0x3FFF (x % 2 ^ 18) 0x1FC (omega arith) (omega arith)

  none_high : x / 262144 ≡ 0
  none_high = omega (arith, split, and_mask (x / 2 ^ 18) 14)

  low_zero : x % 262144 / 4 % 128 ≡ 0
  low_zero = omega (arith, split, and_high (x % 2 ^ 18) 7 2)

  none_low : x / 4 % 128 ≡ 0
  none_low =
      let y = x % 262144 / 4 in
      let z : x / 4 ≡ (x / 262144 * 512) * 128 + y = omega arith in
      let w : y ≡ y / 128 * 128 = omega (arith, low_zero) in
      omega arith

-- ONE TEST
pub watched : (r q : ℕ) → r < 4294967296 → q < 4294967296 → bit_and (bit_xor r q) few_watched ≡ 0 → Agree r q
watched r q a b h =
    let x = bit_xor r q in
    let f : x < 4294967296 = xor_lt 32 r q a b in
    record {
      high = xor_none (r / 262144) (q / 262144) (sym (xor_shr r q 18) ∙ none_high x f h);
      low =
          xor_none (r / 4 % 128) (q / 4 % 128)
          (sym (xor_mod (r / 4) (q / 4) 7) ∙ ap (λ (n : ℕ). n % 128) (sym (xor_shr r q 2)) ∙ none_low x f h);
    }

-- A RECORD WHOSE HIGHEST 14 BITS ARE THOSE OF A LINE EVENT IS ONE
module _ (r : ℕ) (h : r / 262144 ≡ 0x2800) where
  kind : r / 16777216 % 256 / 32 ≡ 5
  kind = omega arith

  offset : r / 16777216 % 256 % 32 ≡ 0
  offset = omega arith

  whole : payload_of (r / 65536 % 256) (r / 256 % 256) (r % 256) ≡ r % 262144
  whole =
      let a : r / 65536 % 256 ≡ r / 65536 - 0xA000 = omega arith in
      let b : r % 65536 ≡ r / 256 % 256 * 256 + r % 256 = omega arith in
      let c : r % 262144 ≡ (r / 65536 - 0xA000) * 65536 + r % 65536 = omega arith in
      omega arith

  unit : r / 1 ≡ r
  unit = omega arith

  payload : payload_of (r / 65536 % 256) (r / 256 % 256) (r / 1 % 256) ≡ r % 262144
  payload = ap (λ (n : ℕ). payload_of (r / 65536 % 256) (r / 256 % 256) (n % 256)) unit ∙ whole

  line_decoded : decode (bytes_of 4 r) ≡ Some (Drive (lines_of (r % 262144)))
  unfolding decode fields_of well_formed
  line_decoded =
      let low : fields_of 5 0 (r % 262144) ≡ Some (Drive (lines_of (r % 262144))) = rw (lt-ltb (r % 262144) 262144 (omega arith)) in
      (λ j. fields_of (kind j) (offset j) (payload j)) ∙ low

  pub line_step : (s : State) → step s (bytes_of 4 r) ≡ access s (Drive (lines_of (r % 262144)))
  unfolding step step_decoded step_event
  line_step s = ap (step_decoded s) line_decoded

low_same : (x : ℕ) → x % 262144 / 4 % 128 ≡ x / 4 % 128
low_same x =
    let y = x % 262144 / 4 in
    let z : x / 4 ≡ (x / 262144 * 512) * 128 + y = omega arith in
    let w : y ≡ y / 128 * 128 + y % 128 = omega arith in
    omega arith

-- A RECORD THAT AGREES WITH THAT OF THE PRESENT LINES IN THE WATCHED BITS is a line event in which others change no more than data,
-- parity, REQ and ACK
pub few_record : (s : State) (r : ℕ) → s.lines.byte < 256 → r < 4294967296 → bit_and (bit_xor r (line_record s)) few_watched ≡ 0
    → step s (bytes_of 4 r) ≡ access s (Drive (few (lines_of (r % 262144)) s.lines))
unfolding line_record
few_record s r byte a m =
    let q = lines_record s.lines in
    let g = watched r q a (record_small s.lines byte) m in
    let p = r % 262144 in
    let f : p / 4 % 128 ≡ q % 262144 / 4 % 128 = low_same r ∙ g.low ∙ sym (low_same q) in
    line_step r (g.high ∙ record_high s.lines byte) s
    ∙ ap (λ (l : Lines). access s (Drive l)) (same_lines p (q % 262144) f ∙ ap (few (lines_of p)) (lines_back s.lines byte))

-- the same with what stands beside the image: where all bits are watched the record is that of the present lines
none_differ : (x : ℕ) → x < 4294967296 → bit_and x all_watched ≡ 0 → bit_and x few_watched ≡ 0
none_differ x f h =
    let none : x ≡ 0 = omega (arith, h, and_mask x 32) in
    omega (arith, none, and_le_l x few_watched)

few_differ : (b : Bool) (x : ℕ) → x < 4294967296 → bit_and x (cond b all_watched few_watched) ≡ 0 → bit_and x few_watched ≡ 0
few_differ true x f h = none_differ x f h
few_differ false x f h = h

watch_differs : (s : State) (known : Bool) (x : ℕ) → x < 4294967296 → bit_and x (cond known all_watched (watch_of s)) ≡ 0
    → bit_and x few_watched ≡ 0
unfolding watch_of
watch_differs s true x f h = none_differ x f h
watch_differs s false x f h = few_differ (slow s) x f h

-- THE ONE TEST OF A TURN
pub beside_record : (s : State) (b : Beside) (r : ℕ) → IsBeside s b → s.lines.byte < 256 → r < 4294967296
    → bit_and (bit_xor r b.lines) b.watch ≡ 0 → step s (bytes_of 4 r) ≡ access s (Drive (few (lines_of (r % 262144)) s.lines))
unfolding line_record
beside_record s b r k byte a m =
    let q = line_record s in
    let h : bit_and (bit_xor r q) (cond (eqb b.facts 0) all_watched (watch_of s)) ≡ 0 = rw (k.lines, k.watch) at m in
    few_record s r byte a (watch_differs s (eqb b.facts 0) (bit_xor r q) (xor_lt 32 r q a (record_small s.lines byte)) h)

-- L1 ON RECORDS: REQ does not rise
pub few_step : (s : State) (r : ℕ) → AtRest s → InRange s → s.lines.byte < 256 → r < 4294967296 → s.lines.sel ≡ false
    → bit_and (bit_xor r (line_record s)) few_watched ≡ 0 → ((lines_of (r % 262144)).req && not s.lines.req) ≡ false
    → step s (bytes_of 4 r) ≡ ended (acked (taken (lines_of (r % 262144)) s)) Done 0
few_step s r rest range byte a sel m low =
    let l = lines_of (r % 262144) in
    few_record s r byte a m ∙ few_lines l s rest range (unselected l s sel) low

-- THE RECORD OF THE PRESENT LINES CHANGES NOTHING
pub line_record_stands : (s : State) → AtRest s → InRange s → s.lines.byte < 256 → step s (bytes_of 4 (line_record s)) ≡ ended s Done 0
unfolding line_record
line_record_stands s r i byte =
    line_step (lines_record s.lines) (record_high s.lines byte) s
    ∙ ap (λ (l : Lines). access s (Drive l)) (lines_back s.lines byte)
    ∙ few_lines s.lines s r i refl (and-not_self s.lines.req)
    ∙ ap (λ (c : Bool). ended (acked (with_ack (not c && s.transfer.ack) s)) Done 0) (and-not_self s.lines.req)
    ∙ ap (λ (n : State). ended n Done 0) (acked_still s r.reqinit)
