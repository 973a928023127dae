-- Bytes that go out as they come: where synchronous REQs are outstanding and the SCSI FIFO is empty, settling sends as many bytes of
-- the host FIFO as there are REQs for, and those behind them fill the SCSI FIFO.
use mathlib.Core.Path.{◌≡◌, refl, sym, ap, ◌∙◌}
use mathlib.Core.Bool.{Bool, true, false, and-false}
use mathlib.Core.List.{List, [], ◌∷◌, ◌++◌}
use Prim.Native.Nat.{ℕ, zero, suc, ◌+◌, ◌-◌, ◌%◌, ◌<◌, ◌≤◌, min}
use native.Mathlib.Omega.{arith}
use native.Mathlib.Nat.{add-zero, zero-add, le_refl}
use native.Mathlib.Numerals.{add-one}
use native.Mathlib.Decide.{dec_le}
use lib.ListN.{length, take, drop, set, get_or, length-append, length-take, length-drop}
use lib.Seq.{drop-drop, take-add, get_or-take, get_or-drop, length-take-le, paste}
use borrow.Author.Tests.{lt-ltb, le-ltb}
use Rattle.rules.specs.Numbers.{padded}
use Rattle.rules.specs.State.{State, Transfer}
use Rattle.rules.specs.Changed.{with_transfer, with_last, with_offset, with_counter, with_host, with_scsi, transfer_with_host}
use Rattle.rules.specs.Counter.{counter_size, counter_step, stepped_to, counter_byte, counter_with}
use Rattle.rules.specs.Seen.{matched}
use Rattle.rules.specs.StepC.{Settling, conditions, can_move, move, can_synchronous, can_handshake, handshake, settle, turns}
use Rattle.rules.specs.declared.chip.Conditions.{Conditions}
use Rattle.rules.specs.declared.counts.Direction.TheVariants.{Up}
use Rattle.rules.proofs.Logic.{left_true, right_true}
use Rattle.rules.proofs.Ranges.{bytes_append, bytes_take, bytes_drop, bytes_at}
use Rattle.rules.proofs.Rest.{measure_small, move_full, settle_rests}
use Rattle.fifos.specs.Fifos.{sent_of}
use Rattle.rules.specs.declared.chip.Fifo.{Fifo}
use Rattle.fifos.proofs.Laws.{sent_count}
use Rattle.image.specs.Image.{IsImage, image_of, state_at}
use Rattle.image.specs.Layout.{counter_low_place, host_bytes_place, host_count_place, last_place, offset_place, scsi_bytes_place, scsi_count_place}
use Rattle.laws.proofs.Lists.{drop_take}
use Rattle.datapath.proofs.Ends.{scsi_behind}
use Rattle.datapath.proofs.Fronts.{placed_at}
use Rattle.datapath.proofs.Heads.{byte_laid, offset_stored_lem}
use Rattle.settling.specs.Blocks.{start_of, movable, carried, moved_by}
use Rattle.settling.specs.Settles.{Settles, end_of}
use Rattle.settling.proofs.Runs.{run_keeps, run_ends}
use Rattle.settling.proofs.Underway.{move_offset}
use Rattle.settling.proofs.Carries.{host_held}
use Rattle.settling.proofs.ReadBackOfTransfer.{long, kept}
use Rattle.words.proofs.Outbound.{can_move_lem, settle_moves, settle_handshakes}
use Rattle.strings.proofs.Oldest.{oldest_there, oldest}

-- the byte last sent
last_after : ℕ → Transfer → ℕ
last_after zero t = t.last
last_after (suc n) t = get_or t.host n 0

-- n bytes of the host FIFO gone through the SCSI FIFO, each moved and then sent
abbrev through : ℕ → Transfer → Transfer
through n t =
    record { host = drop n t.host; scsi = []; counter = t.counter + n; offset = t.offset - n; ack = t.ack; last = last_after n t }

abbrev gone : ℕ → Transfer → Settling
gone n t = record { transfer = through n t; moves = n; acks = n; sent = take n t.host }

-- by its parts
by_parts : {h h' q q' l l' : List ℕ} {k k' o o' b b' m m' a a' : ℕ} (v : Bool)
    → h ≡ h' → q ≡ q' → k ≡ k' → o ≡ o' → b ≡ b' → m ≡ m' → a ≡ a' → l ≡ l'
    → ◌≡◌ {A = Settling} (record { transfer = record { host = h; scsi = q; counter = k; offset = o; ack = v; last = b }; moves = m; acks = a; sent = l })
    (record { transfer = record { host = h'; scsi = q'; counter = k'; offset = o'; ack = v; last = b' }; moves = m'; acks = a'; sent = l' })
by_parts v d e f g h i j k = cc

-- the one byte on its way
one_off : (l : List ℕ) → drop 1 (take 1 l) ≡ []
one_off [] = refl
one_off (x ∷ l) = refl

one_sent : (l : List ℕ) → take 1 (take 1 l) ≡ take 1 l
one_sent [] = refl
one_sent (x ∷ l) = refl

counts_up : (n : ℕ) → n + 1 < counter_size → (counter_step Up n).value ≡ n + 1
unfolding counter_step stepped_to
counts_up n h = omega arith

gone_begins : (t : Transfer) → t.scsi ≡ [] → gone 0 t ≡ start_of t
unfolding start_of last_after
gone_begins t e = by_parts t.ack refl (sym e) (add-zero t.counter) (omega arith) refl refl refl refl

-- synchronous, outbound, with a path
module _ (c : Conditions) (e : c.enabled ≡ true) (p : c.path ≡ true) (o : c.outbound ≡ true) (y : c.synchronous ≡ true) (t : Transfer) (f : t.offset ≤ 8) where
  -- one byte more
  gone_more : (n : ℕ) → t.counter + suc n < counter_size → handshake c (move c (gone n t)) ≡ gone (suc n) t
  unfolding move handshake last_after
  gone_more n k =
      let h = t.host in
      let l = drop n h in
      let i : n + 1 ≡ suc n = add-one n in
      rw (o, y)
      (by_parts t.ack
      (drop-drop 1 n h ∙ ap (λ j. drop j h) i)
      (one_off l)
      (counts_up (t.counter + n) (omega arith) ∙ omega arith)
      (omega arith)
      (get_or-take 1 l 0 0 (omega arith) ∙ get_or-drop n h 0 0 ∙ ap (λ j. get_or h j 0) (add-zero n))
      i
      i
      (ap (λ x. take n h ++ x) (one_sent l) ∙ sym (take-add n 1 h) ∙ ap (λ j. take j h) i))

  -- it can be moved, and then sent
  gone_moves : (n : ℕ) → n < length t.host → can_move c (through n t) ≡ true
  gone_moves n h = can_move_lem c o (through n t) p (simp length-drop (omega arith)) (omega arith)

  gone_shakes : (n : ℕ) → n < length t.host → n < t.offset → can_handshake c (move c (gone n t)).transfer ≡ true
  unfolding can_handshake can_synchronous move
  gone_shakes n h k =
      let g : 0 < length (take 1 (drop n t.host)) = simp (length-take, length-drop) (omega arith) in
      rw (e, o, y, lt-ltb 0 (t.offset - n) (omega arith), lt-ltb 0 (length (take 1 (drop n t.host))) g)

  gone_settles : (n : ℕ) → n ≤ length t.host → n ≤ t.offset → t.counter + n < counter_size → settle c turns (gone n t) ≡ settle c turns (gone 0 t)
  gone_settles zero h k l = refl
  gone_settles (suc n) h k l =
      let s = gone n t in
      let a = gone_moves n (omega arith) in
      let b = measure_small c (through n t) (omega arith) (omega arith) in
      let d = measure_small c (move c s).transfer (move_full c s a (omega arith)) (move_offset c s (omega arith)) in
      ap (λ x. settle c turns x) (sym (gone_more n l))
      ∙ sym (settle_handshakes c o turns 8 (move c s) d (omega arith) (gone_shakes n (omega arith) (omega arith)))
      ∙ sym (settle_moves c o turns s b a)
      ∙ gone_settles n (omega arith) (omega arith) (omega arith)

  module _ (n : ℕ) (q : n ≡ min t.offset (length t.host)) (k : t.counter + n < counter_size) (z : t.scsi ≡ []) where
    -- then as many moves as are possible, which leave nothing to send
    abbrev left : Settling
    left = moved_by c (movable c (through n t)) (gone n t)

    abbrev Same : Settling → Type 0
    Same x = (length x.transfer.scsi ≤ 8) × (x.transfer.offset ≤ 8) × (settle c turns x ≡ settle c turns (gone n t))

    same_moved : (x : Settling) → can_move c x.transfer ≡ true → Same x → Same (move c x)
    same_moved x a i =
        let b = measure_small c x.transfer i.0 i.1 in
        (move_full c x a i.0, move_offset c x i.1, sym (settle_moves c o turns x b a) ∙ i.2)

    left_same : Same left
    left_same = run_keeps Same c same_moved (movable c (through n t)) (gone n t) (le_refl _) (omega arith, omega arith, refl)

    left_quiet : can_handshake c left.transfer ≡ false
    unfolding can_handshake can_synchronous moved_by carried movable
    left_quiet = go (dec_le t.offset (length t.host))
      where
        l : List ℕ
        l = drop n t.host

        go : Dec (t.offset ≤ length t.host) → can_handshake c left.transfer ≡ false
        go (yes h) = rw (e, o, y, le-ltb 0 (t.offset - n) (omega arith))
        go (no h) =
            let g : length (take (min (length l) (8 - 0)) l) ≤ 0 = simp (length-take, length-drop) (omega arith) in
            rw (e, p, o, y, le-ltb 0 (length (take (min (length l) (8 - 0)) l)) g, and-false)

    settled_through : settle c turns (start_of t) ≡ left
    unfolding moved_by
    settled_through =
        ap (λ x. settle c turns x) (sym (gone_begins t z))
        ∙ sym (gone_settles n (omega arith) (omega arith) k)
        ∙ sym left_same.2
        ∙ settle_rests c turns left (record { no_move = run_ends c (through n t); no_handshake = left_quiet })

    moves_are : movable c (through n t) ≡ min (length t.host - n) 8
    unfolding movable
    moves_are = rw (p, o) (simp length-drop)

    through_transfer : (settle c turns (start_of t)).transfer ≡ carried true (min (length t.host - n) 8) (through n t)
    unfolding moved_by
    through_transfer =
        ap (λ x. x.transfer) settled_through
        ∙ ap (λ b. carried b (movable c (through n t)) (through n t)) o
        ∙ ap (λ j. carried true j (through n t)) moves_are

    through_acks : (settle c turns (start_of t)).acks ≡ n
    unfolding moved_by
    through_acks = ap (λ x. x.acks) settled_through

    through_sent : (settle c turns (start_of t)).sent ≡ take n t.host
    unfolding moved_by
    through_sent = ap (λ x. x.sent) settled_through

    through_moves : (settle c turns (start_of t)).moves ≤ 16
    unfolding moved_by
    through_moves = omega (arith, ap (λ x. x.moves) settled_through, moves_are)

-- the same on an image
last_is : (t : Transfer) (n : ℕ) → 0 < n → get_or t.host (n - 1) 0 ≡ last_after n t
unfolding last_after
last_is t zero h = absurd (omega arith)
last_is t (suc n) h =
    let i : suc n - 1 ≡ n = omega arith in
    ap (λ j. get_or t.host j 0) i

path_open : (s : State) → (conditions s).enabled ≡ true → (conditions s).path ≡ true
unfolding conditions
path_open s e = right_true s.registers.sxfrctl0.scsien _ (left_true _ (matched s) e)

-- the bytes handed back
pub oldest_sent : (m : List ℕ) (i : IsImage m) (n : ℕ) → n ≤ length (state_at m).transfer.host → (b : List ℕ) → b ≡ padded 8 (take n (drop host_bytes_place m)) → ◌≡◌ {A = Fifo 8} (record { bytes = b; count = n }) (sent_of (take n (state_at m).transfer.host))
oldest_sent m i n h b e =
    let f : b ≡ padded 8 (take n (state_at m).transfer.host) = e ∙ ap (padded 8) (oldest m i n h) in
    let g : n ≡ length (take n (state_at m).transfer.host) = sym (length-take-le n (state_at m).transfer.host h) in
    cc

pub none_sent : {v : Fifo 8} (l : List ℕ) → v ≡ sent_of l → v.count ≡ 0 → v ≡ sent_of []
none_sent [] e h = e
none_sent {v} (x ∷ l) e h = absurd (omega (arith, sent_count v (x ∷ l) e))

pub none_held : (l : List ℕ) → length l ≤ 0 → l ≡ []
none_held [] h = refl
none_held (x ∷ l) h = absurd (omega arith)

-- the counter, the offset and the byte last sent in their places
last_stored : (s : State) (b : ℕ) → set (image_of s) last_place b ≡ image_of (with_last b s)
unfolding image_of
last_stored s b = refl

both_stored : (s : State) {m : List ℕ} {b b' o o' : ℕ} → m ≡ image_of s → b ≡ b' → o ≡ o' → set (set m last_place b) offset_place o ≡ image_of (with_offset o' (with_last b' s))
both_stored s {b' = b'} {o' = o'} d e f = rw (d, e, f, last_stored s b') (offset_stored_lem (with_last b' s) o')

low_at : (s : State) → get_or (image_of s) counter_low_place 0 ≡ counter_byte 0 s.transfer.counter
unfolding image_of
low_at s = refl

low_more : (k n v : ℕ) → v ≡ counter_byte 0 k + n → k % 256 + n < 256 → (v < 256) × (counter_with 0 v k ≡ k + n)
low_more k n v e h = (omega arith, omega arith)

module _ (m : List ℕ) (i : IsImage m) (n : ℕ) where
  abbrev s : State
  s = state_at m

  abbrev t : Transfer
  t = s.transfer

  -- what is read
  pub low_held : get_or m counter_low_place 0 ≡ t.counter % 256
  low_held = ap (λ (l : List ℕ). get_or l counter_low_place 0) i.packed ∙ low_at s ∙ omega arith

  newest : 0 < n → n ≤ length t.host → get_or m (host_bytes_place + (n - 1)) 0 ≡ get_or t.host (n - 1) 0
  newest g h =
      sym (get_or-drop host_bytes_place m (n - 1) 0) ∙ sym (get_or-take n (drop host_bytes_place m) (n - 1) 0 (omega arith))
      ∙ ap (λ (l : List ℕ). get_or l (n - 1) 0) (oldest m i n h)
      ∙ get_or-take n t.host (n - 1) 0 (omega arith)

  -- n ACKs
  pub acked : 0 < n → n ≤ length t.host → t.counter % 256 + n < 256 → {b o k : ℕ} → b ≡ get_or m (host_bytes_place + (n - 1)) 0 → o ≡ t.offset - n → k ≡ get_or m counter_low_place 0 + n
      → set (set (set m last_place b) offset_place o) counter_low_place k ≡ image_of (with_counter (t.counter + n) (with_offset (t.offset - n) (with_last (get_or t.host (n - 1) 0) s)))
  acked g h l {b} {o} {k} e f d =
      let x : State = with_offset (t.offset - n) (with_last (get_or t.host (n - 1) 0) s) in
      let v : k ≡ counter_byte 0 t.counter + n = d ∙ ap (λ (j : ℕ). j + n) (ap (λ (y : List ℕ). get_or y counter_low_place 0) i.packed ∙ low_at s) in
      let c = low_more t.counter n k v l in
      let q : set (set m last_place b) offset_place o ≡ image_of x = both_stored s i.packed (e ∙ newest g h) f in
      byte_laid x q 0 k (omega arith) c.0 ∙ ap (λ (y : ℕ). image_of (with_counter y x)) c.1

  -- n bytes gone, and j more in the SCSI FIFO
  behind_them : (j : ℕ) → n + j ≤ length t.host → take j (drop (host_bytes_place + n) m) ≡ take j (drop n t.host)
  behind_them j h =
      let l : List ℕ = drop host_bytes_place m in
      let a : n + j - n ≡ j = omega arith in
      ap (take j) (sym (drop-drop n host_bytes_place m))
      ∙ ap (λ (k : ℕ). take k (drop n l)) (sym a)
      ∙ sym (drop_take n (n + j) l (omega arith) (oldest_there m i (n + j) h))
      ∙ ap (drop n) (oldest m i (n + j) h)
      ∙ drop_take n (n + j) t.host (omega arith) h
      ∙ ap (λ (k : ℕ). take k (drop n t.host)) a

  module _ (z : t.scsi ≡ []) (j : ℕ) (h : n + j ≤ length t.host) (k : j ≤ 8) {m₁ : List ℕ} (e : m₁ ≡ paste m scsi_bytes_place (drop (host_bytes_place + n) m) j) where
    behind : IsImage (set m₁ scsi_count_place j) × (state_at (set m₁ scsi_count_place j) ≡ with_scsi (t.scsi ++ take j (drop n t.host)) s)
    behind =
        let f = i.range.transfer in
        let b = i.bytes.transfer in
        let u : 0 ≡ length t.scsi = ap length (sym z) in
        let q : List ℕ = t.scsi ++ take j (drop n t.host) in
        let v : set m₁ scsi_count_place (0 + j) ≡ image_of (with_scsi (t.scsi ++ take j (drop (host_bytes_place + n) m)) s) = scsi_behind s i.packed (placed_at m i) 0 j u (drop (host_bytes_place + n) m) (omega arith) (simp length-drop (omega (arith, long m i, f.host))) e in
        kept m (set m₁ scsi_count_place j) (with_scsi q s).transfer i
        (record { host = f.host; scsi = simp (length-append, length-take) (omega arith); counter = f.counter; offset = f.offset })
        (record { last = b.last; host = b.host; scsi = bytes_append t.scsi (take j (drop n t.host)) b.scsi (bytes_take j (drop n t.host) (bytes_drop n t.host b.host)) })
        (ap (set m₁ scsi_count_place) (sym (zero-add j)) ∙ v ∙ ap (λ (x : List ℕ). image_of (with_scsi (t.scsi ++ x) s)) (behind_them j h))

    pub behind_image : IsImage (set m₁ scsi_count_place j)
    behind_image = behind.0

    pub behind_held : n + j ≤ get_or (set m₁ scsi_count_place j) host_count_place 0
    behind_held = omega (arith, h, host_held (set m₁ scsi_count_place j) behind.0, ap (λ (x : State). length x.transfer.host) behind.1)

    pub filled : {m₂ : List ℕ} → m₂ ≡ image_of (with_host (drop (n + j) (state_at (set m₁ scsi_count_place j)).transfer.host) (state_at (set m₁ scsi_count_place j))) → m₂ ≡ image_of (with_transfer (carried true j (transfer_with_host (drop n t.host) t)) s)
    unfolding carried
    filled g =
        g ∙ ap (λ (x : State). image_of (with_host (drop (n + j) x.transfer.host) x)) behind.1
        ∙ ap (λ (x : List ℕ). image_of (with_host x (with_scsi (t.scsi ++ take j (drop n t.host)) s))) (sym (drop-drop j n t.host))

-- n bytes go out at once
pub record GoesOut (m : List ℕ) (n : ℕ) : Type 0 where
  pub image : IsImage m
  pub count : n ≡ min (state_at m).transfer.offset (length (state_at m).transfer.host)
  pub some : 0 < n
  pub none : (state_at m).transfer.scsi ≡ []
  pub low : (state_at m).transfer.counter % 256 + n < 256
  pub enabled : (conditions (state_at m)).enabled ≡ true
  pub outbound : (conditions (state_at m)).outbound ≡ true
  pub synchronous : (conditions (state_at m)).synchronous ≡ true

module _ {m : List ℕ} {n : ℕ} (g : GoesOut m n) {m₁ : List ℕ} (e₁ : m₁ ≡ image_of (with_counter ((state_at m).transfer.counter + n) (with_offset ((state_at m).transfer.offset - n) (with_last (get_or (state_at m).transfer.host (n - 1) 0) (state_at m))))) where
  abbrev x : State
  x = state_at m

  abbrev h : List ℕ
  h = x.transfer.host

  abbrev acks : Transfer
  acks = (with_counter (x.transfer.counter + n) (with_offset (x.transfer.offset - n) (with_last (get_or h (n - 1) 0) x))).transfer

  counter_below : x.transfer.counter + n < counter_size
  counter_below = omega (arith, g.low, g.image.range.transfer.counter)

  acks_kept : IsImage m₁ × (state_at m₁ ≡ with_transfer acks x)
  acks_kept =
      let f = g.image.range.transfer in
      let b = g.image.bytes.transfer in
      kept m m₁ acks g.image
      (record { host = f.host; scsi = f.scsi; counter = counter_below; offset = omega (arith, f.offset) })
      (record { last = bytes_at h (n - 1) b.host; host = b.host; scsi = b.scsi })
      e₁

  pub acks_image : IsImage m₁
  acks_image = acks_kept.0

  pub acks_scsi : (state_at m₁).transfer.scsi ≡ []
  acks_scsi = ap (λ (y : State). y.transfer.scsi) acks_kept.1 ∙ g.none

  pub acks_host : n ≤ length (state_at m₁).transfer.host
  acks_host = omega (arith, g.count, ap (λ (y : State). length y.transfer.host) acks_kept.1)

  same_through : transfer_with_host (drop n h) acks ≡ through n x.transfer
  same_through =
      let a = last_is x.transfer n g.some in
      let b = g.none in
      cc

  -- ALL OF IT IS WHAT SETTLING DOES
  pub out_settles : {m₂ : List ℕ} {r : Fifo 8}
      → m₂ ≡ image_of (with_transfer (carried true (min (length (state_at m₁).transfer.host - n) 8) (transfer_with_host (drop n (state_at m₁).transfer.host) (state_at m₁).transfer)) (state_at m₁))
      → r ≡ sent_of (take n h) → Settles m (conditions x) m₂ (record { moves = (end_of m (conditions x)).moves; acks = n; sent = r })
  out_settles e₂ d =
      let c = conditions x in
      let p = path_open x g.enabled in
      let f = g.image.range.transfer.offset in
      record {
        exact =
            e₂
            ∙ ap (λ (y : State). image_of (with_transfer (carried true (min (length y.transfer.host - n) 8) (transfer_with_host (drop n y.transfer.host) y.transfer)) y)) acks_kept.1
            ∙ ap (λ (y : Transfer). image_of (with_transfer (carried true (min (length h - n) 8) y) x)) same_through
            ∙ ap (λ (y : Transfer). image_of (with_transfer y x)) (sym (through_transfer c g.enabled p g.outbound g.synchronous x.transfer f n g.count counter_below g.none));
        sent = d ∙ ap sent_of (sym (through_sent c g.enabled p g.outbound g.synchronous x.transfer f n g.count counter_below g.none));
        moves = refl;
        acks = sym (through_acks c g.enabled p g.outbound g.synchronous x.transfer f n g.count counter_below g.none);
        few_moves = through_moves c g.enabled p g.outbound g.synchronous x.transfer f n g.count counter_below g.none;
        few_acks = omega (arith, g.count, f);
      }
