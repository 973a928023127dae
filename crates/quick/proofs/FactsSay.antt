-- What the facts say, in the words that the laws of line events ask for.
use mathlib.Core.Path.{◌≡◌, refl, sym, ◌∙◌, ap}
use mathlib.Core.Bool.{Bool, true, false, not, ◌&&◌, ◌||◌, cond, beq}
use Prim.Native.Nat.{ℕ}
use native.Mathlib.Omega.{arith}
use lib.Dec.{eqb, ltb}
use borrow.Author.Tests.{eqb-false}
use Rattle.rules.specs.State.{State}
use Rattle.rules.specs.Seen.{phase_number, is_phase, automatic, connected, matched, mismatched, normal, path, rst_seen, synchronous}
use Rattle.rules.specs.StepC.{conditions}
use Rattle.rules.specs.declared.chip.Phase.{Phase}
use Rattle.rules.specs.declared.chip.Phase.TheVariants.{Idle, Waiting, Arbitrating, Clearing, Selecting, Holding, Answering, Answered}
use Rattle.rules.proofs.Logic.{never, left_true, right_true}
use Rattle.quick.specs.Facts.{plain_rise, synchronous_out_rise, synchronous_in_rise, asynchronous_out_rise, asynchronous_in_rise, automatic_rise, general_rise, handshake_rise, rise_of, few_watched, all_watched, slow, watch_of}
use Rattle.quick.specs.Beside.{Beside, IsBeside}
use Rattle.quick.proofs.SelectionWrites.{sleeps}

-- WHAT A WATCH OF FEW BITS SAYS
pub record Few (s : State) : Type 0 where
  pub rst : rst_seen s ≡ false
  pub asleep : sleeps s.sequencer.phase ≡ true
  pub sel : s.lines.sel ≡ false
  pub reqinit : s.registers.simode1.enreqinit ≡ false
  pub mismatch : (s.registers.simode1.enphasemis && mismatched s) ≡ false

neither_left : (a b : Bool) → (a || b) ≡ false → a ≡ false
neither_left true b h = h
neither_left false b h = refl

neither_right : (a b : Bool) → (a || b) ≡ false → b ≡ false
neither_right true b h = absurd (never (sym h))
neither_right false b h = h

early : (p : Phase) → ltb 1 (phase_number p) ≡ false → sleeps p ≡ true
unfolding phase_number is_phase
early Idle h = refl
early Waiting h = refl
early Arbitrating h = absurd (never (sym h))
early Clearing h = absurd (never (sym h))
early Selecting h = absurd (never (sym h))
early Holding h = absurd (never (sym h))
early Answering h = absurd (never (sym h))
early Answered h = absurd (never (sym h))

pub slow_not : (s : State) → slow s ≡ false → Few s
unfolding slow
slow_not s h =
    let late = ltb 1 (phase_number s.sequencer.phase) in
    let sel = s.lines.sel in
    let reqinit = s.registers.simode1.enreqinit in
    let mismatch = s.registers.simode1.enphasemis && mismatched s in
    let k4 = neither_left (((rst_seen s || late) || sel) || reqinit) mismatch h in
    let k3 = neither_left ((rst_seen s || late) || sel) reqinit k4 in
    let k2 = neither_left (rst_seen s || late) sel k3 in
    record {
      rst = neither_left (rst_seen s) late k2;
      asleep = early s.sequencer.phase (neither_right (rst_seen s) late k2);
      sel = neither_right (rst_seen s || late) sel k3;
      reqinit = neither_right ((rst_seen s || late) || sel) reqinit k4;
      mismatch = neither_right (((rst_seen s || late) || sel) || reqinit) mismatch h;
    }

few_slow : (unknown slowly : Bool) → cond unknown all_watched (cond slowly all_watched few_watched) ≡ few_watched → slowly ≡ false
few_slow true slowly h = absurd (omega arith)
few_slow false true h = absurd (omega arith)
few_slow false false h = refl

pub few_says : (s : State) (b : Beside) → IsBeside s b → b.watch ≡ few_watched → Few s
unfolding watch_of
few_says s b k h = slow_not s (few_slow (eqb b.facts 0) (slow s) (sym k.watch ∙ h))

-- WHAT THE KIND OF A RISING REQ SAYS: a handshake is possible, synchronous or not, out or in
pub record Says (s : State) (ahead out : Bool) : Type 0 where
  pub matched : matched s ≡ true
  pub path : path s.registers ≡ true
  pub scsien : s.registers.sxfrctl0.scsien ≡ true
  pub synchronous : synchronous s ≡ ahead
  pub write : s.registers.dmacntrl0.write ≡ out

-- of two numbers the one that is not k is not chosen
module _ (b : Bool) (x y k : ℕ) where
  pub record First : Type 0 where
    pub yes : b ≡ true
    pub is : x ≡ k

  pub record Second : Type 0 where
    pub no : b ≡ false
    pub is : y ≡ k

first : (b : Bool) (x y k : ℕ) → eqb y k ≡ false → cond b x y ≡ k → First b x y k
first true x y k h e = record { yes = refl; is = e }
first false x y k h e = absurd (eqb-false y k h e)

second : (b : Bool) (x y k : ℕ) → eqb x k ≡ false → cond b x y ≡ k → Second b x y k
second true x y k h e = absurd (eqb-false x k h e)
second false x y k h e = record { no = refl; is = e }

neither : (b : Bool) (x y k : ℕ) → eqb x k ≡ false → eqb y k ≡ false → eqb (cond b x y) k ≡ false
neither true x y k h g = h
neither false x y k h g = g

-- a kind of handshake is none of the others
pub record Kind (k : ℕ) : Type 0 where
  pub plain : eqb plain_rise k ≡ false
  pub by_hand : eqb automatic_rise k ≡ false
  pub general : eqb general_rise k ≡ false

module _ (s : State) (k : ℕ) (h : Kind k) (e : rise_of s ≡ k) where
  abbrev r : ℕ
  r = cond (synchronous s) general_rise plain_rise

  abbrev a : ℕ
  a = cond (automatic s.registers) automatic_rise plain_rise

  abbrev c : ℕ
  c = cond s.registers.sxfrctl0.scsien (handshake_rise s) r

  is_matched : First (matched s) (cond (path s.registers) c a) plain_rise k
  unfolding rise_of
  is_matched = first (matched s) (cond (path s.registers) c a) plain_rise k h.plain e

  has_path : First (path s.registers) c a k
  has_path = first (path s.registers) c a k (neither (automatic s.registers) automatic_rise plain_rise k h.by_hand h.plain) is_matched.is

  is_enabled : First s.registers.sxfrctl0.scsien (handshake_rise s) r k
  is_enabled =
      first s.registers.sxfrctl0.scsien (handshake_rise s) r k (neither (synchronous s) general_rise plain_rise k h.general h.plain) has_path.is

  says : (ahead out : Bool) → synchronous s ≡ ahead → s.registers.dmacntrl0.write ≡ out → Says s ahead out
  says ahead out y w =
      record { matched = is_matched.yes; path = has_path.yes; scsien = is_enabled.yes; synchronous = y; write = w }

module _ (s : State) where
  abbrev w : Bool
  w = s.registers.dmacntrl0.write

  abbrev ahead_kind : ℕ
  ahead_kind = cond w synchronous_out_rise synchronous_in_rise

  abbrev each_kind : ℕ
  each_kind = cond w asynchronous_out_rise asynchronous_in_rise

  pub synchronous_out_says : rise_of s ≡ synchronous_out_rise → Says s true true
  unfolding handshake_rise
  synchronous_out_says e =
      let h : Kind synchronous_out_rise = record { plain = refl; by_hand = refl; general = refl } in
      let y = first (synchronous s) ahead_kind each_kind synchronous_out_rise (neither w asynchronous_out_rise asynchronous_in_rise synchronous_out_rise refl refl) (is_enabled s synchronous_out_rise h e).is in
      says s synchronous_out_rise h e true true y.yes (first w synchronous_out_rise synchronous_in_rise synchronous_out_rise refl y.is).yes

  pub synchronous_in_says : rise_of s ≡ synchronous_in_rise → Says s true false
  unfolding handshake_rise
  synchronous_in_says e =
      let h : Kind synchronous_in_rise = record { plain = refl; by_hand = refl; general = refl } in
      let y = first (synchronous s) ahead_kind each_kind synchronous_in_rise (neither w asynchronous_out_rise asynchronous_in_rise synchronous_in_rise refl refl) (is_enabled s synchronous_in_rise h e).is in
      says s synchronous_in_rise h e true false y.yes (second w synchronous_out_rise synchronous_in_rise synchronous_in_rise refl y.is).no

  pub asynchronous_out_says : rise_of s ≡ asynchronous_out_rise → Says s false true
  unfolding handshake_rise
  asynchronous_out_says e =
      let h : Kind asynchronous_out_rise = record { plain = refl; by_hand = refl; general = refl } in
      let y = second (synchronous s) ahead_kind each_kind asynchronous_out_rise (neither w synchronous_out_rise synchronous_in_rise asynchronous_out_rise refl refl) (is_enabled s asynchronous_out_rise h e).is in
      says s asynchronous_out_rise h e false true y.no (first w asynchronous_out_rise asynchronous_in_rise asynchronous_out_rise refl y.is).yes

  pub asynchronous_in_says : rise_of s ≡ asynchronous_in_rise → Says s false false
  unfolding handshake_rise
  asynchronous_in_says e =
      let h : Kind asynchronous_in_rise = record { plain = refl; by_hand = refl; general = refl } in
      let y = second (synchronous s) ahead_kind each_kind asynchronous_in_rise (neither w synchronous_out_rise synchronous_in_rise asynchronous_in_rise refl refl) (is_enabled s asynchronous_in_rise h e).is in
      says s asynchronous_in_rise h e false false y.no (second w asynchronous_out_rise asynchronous_in_rise asynchronous_in_rise refl y.is).no

-- AND SO A HANDSHAKE IS ENABLED, and IO is seen where bytes come in
module _ (s : State) (ahead out : Bool) (k : Says s ahead out) where
  pub says_enabled : (conditions s).enabled ≡ true
  unfolding conditions
  says_enabled = rw (k.path, k.matched, k.scsien)

  same_io : beq s.lines.io s.registers.scsisig.ioexp ≡ true
  unfolding matched
  same_io =
      let g = s.registers.scsisig in
      let l = s.lines in
      let cd = connected s && beq l.cd g.cdexp in
      right_true cd (beq l.io g.ioexp) (left_true (cd && beq l.io g.ioexp) (beq l.msg g.msgexp) k.matched)

  other_way : not (beq s.registers.dmacntrl0.write s.registers.scsisig.ioexp) ≡ true
  unfolding path
  other_way =
      right_true (normal s.registers) (not (beq s.registers.dmacntrl0.write s.registers.scsisig.ioexp)) k.path

  pub says_io : s.lines.io ≡ not out
  says_io = opposite s.lines.io s.registers.scsisig.ioexp s.registers.dmacntrl0.write same_io other_way ∙ ap not k.write
    where
      opposite : (o x v : Bool) → beq o x ≡ true → not (beq v x) ≡ true → o ≡ not v
      opposite true true true f g = absurd (never g)
      opposite true true false f g = refl
      opposite true false v f g = absurd (never f)
      opposite false true v f g = absurd (never f)
      opposite false false true f g = refl
      opposite false false false f g = absurd (never g)
