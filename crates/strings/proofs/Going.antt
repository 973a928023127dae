-- A string call under way: what is done so far, and what the words left give.
use mathlib.Core.Path.{◌≡◌, refl, ap, sym, subst, ◌∙◌}
use mathlib.Core.Bool.{Bool, true, false, ◌&&◌, cond}
use mathlib.Core.List.{List, [], ◌∷◌, ◌++◌, append_assoc, append-nil}
use Prim.Native.Nat.{ℕ, ◌+◌, ◌-◌, ◌<◌, ◌≤◌, ◌%◌, ◌/◌, min}
use native.Mathlib.Omega.{arith}
use native.Mathlib.Nat.{add_assoc, zero-add}
use lib.Dec.{ltb}
use lib.ListN.{length, take, drop, length-append, length-take, length-drop, take-append-drop}
use lib.Seq.{drop-drop, take_at, drop_at, length-take-le}
use borrow.Author.Tests.{ltb-true, ltb-false, lt-ltb}
use Rattle.rules.specs.Rest.{AtRest}
use Rattle.rules.specs.State.{State}
use Rattle.rules.specs.Codes.{is_done, is_refusal}
use Rattle.rules.specs.Answers.{Stepped}
use Rattle.rules.specs.Step.{ended, refused, step}
use Rattle.rules.specs.declared.codes.Code.{Code}
use Rattle.rules.specs.declared.codes.Code.TheVariants.{Done}
use Rattle.rules.proofs.Logic.{never, left_true, right_true}
use Rattle.image.specs.Image.{IsImage, image_of, state_at}
use Rattle.words.specs.Words.{Strung, strung_none, stopped, one_done, one_then, strung, word_bytes}
use Rattle.words.specs.Blocks.{block_left}
use Rattle.words.proofs.Accesses.{shut_to_words}
use Rattle.words.proofs.Strung.{strung_after, strung_then, strung_append}
use Rattle.words.proofs.Words.{strung_block}
use Rattle.strings.specs.Passed.{IsPassed}
use Rattle.strings.specs.declared.Passed.{Passed}
use Rattle.strings.proofs.Leaves.{image_strung, state_strung, rest_strung}
use Rattle.strings.proofs.First.{stores, nothing, none_stored, nothing_passed, Word, is_stopped, is_done_lem}

-- records in two parts store the one's bytes and then the other's
words_append : (a b : List ℕ) → word_bytes (a ++ b) ≡ word_bytes a ++ word_bytes b
words_append [] b = refl
words_append (v ∷ a) b = ap (λ (r : List ℕ). v % 256 ∷ v / 256 ∷ r) (words_append a b)

joins : (read : Bool) (a b : Strung) → stores read (strung_after a b) ≡ stores read a ++ stores read b
unfolding strung_after
joins true a b = words_append a.values b.values
joins false a b = refl

-- of the records x, d are done and n bytes stored, and c is what the others give
pub record Continues (read : Bool) (x : Strung) (before : List ℕ) (c : Strung) (out : List ℕ) (d n : ℕ) : Type 0 where
  pub state : x.state ≡ c.state
  pub done : x.done ≡ d + c.done
  pub code : x.code ≡ c.code
  pub stored : stores read x ≡ take n out ++ stores read c
  pub behind : drop n out ≡ drop n before
  pub within : n ≤ length out
  pub long : length out ≡ length before

none_done : (read : Bool) (x : Strung) (before : List ℕ) → Continues read x before x before 0 0
none_done read x before =
    record { state = refl; done = sym (zero-add x.done); code = refl; stored = refl; behind = refl; within = omega arith; long = refl }

-- some more are done, and their bytes stored behind
module _ (t : State) {u : State} (xs ys : List (List ℕ)) {p : Strung} (is : strung t xs ≡ p) (ok : p.code ≡ Done) (reached : u ≡ p.state) where
  split : strung t (xs ++ ys) ≡ strung_after p (strung u ys)
  unfolding strung_then
  split =
      strung_append t xs ys
      ∙ ap (λ (y : Strung). strung_then y (strung y.state ys)) is
      ∙ ap (λ (c : Code). cond (is_refusal c) p (strung_after p (strung p.state ys))) ok
      ∙ ap (λ (v : State). strung_after p (strung v ys)) (sym reached)

  more_done : {read : Bool} {x : Strung} {before out next l : List ℕ} {d n j : ℕ} → Continues read x before (strung t (xs ++ ys)) out d n → stores read p ≡ l
      → j ≡ n + length l → next ≡ (take n out ++ l) ++ drop j out → j ≤ length out → Continues read x before (strung u ys) next (d + p.done) j
  unfolding strung_after
  more_done {read} {before = before} {out = out} {next = next} {l = l} {d = d} {n = n} {j = j} k same count e room =
      let c = strung u ys in
      let front : length (take n out ++ l) ≡ j = simp (length-append, length-take) (omega (arith, k.within, count)) in
      let whole : length next ≡ length out = ap length e ∙ simp (length-append, length-take, length-drop) (omega (arith, k.within, count, room)) in
      let past : (a : List ℕ) → drop (length l) (drop n a) ≡ drop j a = λ a. drop-drop (length l) n a ∙ ap (λ (i : ℕ). drop i a) (sym count) in
      record {
        state = k.state ∙ ap (λ (y : Strung). y.state) split;
        done = k.done ∙ ap (λ (y : Strung). d + y.done) split ∙ sym (add_assoc d p.done c.done);
        code = k.code ∙ ap (λ (y : Strung). y.code) split;
        stored =
            k.stored
            ∙ ap (λ (y : Strung). take n out ++ stores read y) split
            ∙ ap (λ (y : List ℕ). take n out ++ y) (joins read p c ∙ ap (λ (y : List ℕ). y ++ stores read c) same)
            ∙ sym (append_assoc (take n out) l (stores read c))
            ∙ ap (λ (y : List ℕ). y ++ stores read c) (sym (ap (take j) e ∙ take_at (take n out ++ l) _ j front));
        behind =
            ap (drop j) e ∙ drop_at (take n out ++ l) _ j front ∙ sym (past out) ∙ ap (drop (length l)) k.behind ∙ past before;
        within = omega (arith, room, whole);
        long = whole ∙ k.long;
      }

-- between two blocks: the chip at rest, its port open, and ys left
pub record Round (read : Bool) (x : Strung) (before : List ℕ) (ys : List (List ℕ)) (m out : List ℕ) (d n : ℕ) : Type 0 where
  pub image : IsImage m
  pub rest : AtRest (state_at m)
  pub opened : shut_to_words read (state_at m).registers ≡ false
  pub goes : Continues read x before (strung (state_at m) ys) out d n

-- NO WORD
pub no_words : (read : Bool) {m : List ℕ} → IsImage m → (before : List ℕ) {xs : List (List ℕ)} → xs ≡ []
    → IsPassed (strung (state_at m) xs) (stores read (strung (state_at m) xs)) before m before (record { done = 0; count = 0; code = Done })
unfolding strung strung_none
no_words read {m} i before z = nothing_passed read (ap (strung (state_at m)) z) i.packed refl before

-- THE BEGINNING: the first word stops the call, or leaves a chip at rest
module _ {read : Bool} {m₀ : List ℕ} (i : IsImage m₀) {word : List ℕ} (w : Word read (state_at m₀) word) {xs more : List (List ℕ)} (e : xs ≡ word ∷ more) {before m out : List ℕ} {r : Passed} (f : IsPassed (strung (state_at m₀) (word ∷ [])) (stores read (strung (state_at m₀) (word ∷ []))) before m out r) where
  abbrev s : State
  s = state_at m₀

  abbrev first : Stepped
  first = step s word

  by_done : (b : Bool) → is_done first.code ≡ b → r.done ≡ cond b 1 0
  unfolding stopped one_done strung_none
  by_done true h = f.done ∙ ap (λ (y : Strung). y.done) (is_done_lem w h)
  by_done false h = f.done ∙ ap (λ (y : Strung). y.done) (is_stopped w h [])

  pub first_stops : r.done ≡ 0 → IsPassed (strung s xs) (stores read (strung s xs)) before m out r
  first_stops z = go (is_done first.code) refl
    where
      go : (b : Bool) → is_done first.code ≡ b → IsPassed (strung s xs) (stores read (strung s xs)) before m out r
      go true h = absurd (omega (arith, z, by_done true h))
      go false h =
          subst (λ (y : Strung). IsPassed y (stores read y) before m out r) (is_stopped w h [] ∙ sym (ap (strung s) e ∙ is_stopped w h more)) f

  pub first_done : (r.done ≡ 0 → ⊥) → is_done first.code ≡ true
  first_done n = go (is_done first.code) refl
    where
      go : (b : Bool) → is_done first.code ≡ b → b ≡ true
      go true h = refl
      go false h = absurd (n (by_done false h))

  pub first_round_lem : is_done first.code ≡ true → r.count ≤ length before → Round read (strung s xs) before more m out 1 r.count
  unfolding one_done strung_none
  first_round_lem h room =
      let y = is_done_lem w h in
      let l = stores read (strung s (word ∷ [])) in
      let reached : state_at m ≡ first.state = state_strung i (word ∷ []) f.image ∙ ap (λ (z : Strung). z.state) y in
      let none : Continues read (strung s xs) before (strung s (word ∷ more)) before 0 0 =
      subst (λ (z : List (List ℕ)). Continues read (strung s xs) before (strung s z) before 0 0) e (none_done read (strung s xs) before) in
      record {
        image = image_strung i (word ∷ []) f.image;
        rest = subst AtRest (sym reached) (w.done h).rest;
        opened = ap (λ (t : State). shut_to_words read t.registers) reached ∙ w.opens h;
        goes =
            more_done s (word ∷ []) more y refl reached none (ap (stores read) (sym y)) (f.count ∙ sym (zero-add (length l)))
            (f.buffer ∙ ap (λ (j : ℕ). l ++ drop j before) (sym f.count)) room;
      }

-- one turn: some words, no more than are left and than there is room, or bytes, for
pub record Turn (words d room k : ℕ) : Type 0 where
  pub some : 0 < k
  pub few : d + k ≤ words
  pub fits : k ≤ room

pub turned : (a b : ℕ) {words d room k : ℕ} → (ltb d words && ltb a b) ≡ true → (a < b → 0 < room) → k ≡ min (words - d) room → Turn words d room k
turned a b {words} {d} t f e =
    let p = ltb-true d words (left_true (ltb d words) (ltb a b) t) in
    let q = f (ltb-true a b (right_true (ltb d words) (ltb a b) t)) in
    record { some = omega arith; few = omega arith; fits = omega arith }

pub no_turn : (words d a b : ℕ) → (ltb d words && ltb a b) ≡ false → d < words → b ≤ a
no_turn words d a b t h = go (ltb a b) refl
  where
    go : (c : Bool) → ltb a b ≡ c → b ≤ a
    go true e = absurd (never (sym t ∙ ap (λ (c : Bool). c && ltb a b) (lt-ltb d words h) ∙ e))
    go false e = ltb-false a b e

module _ {read : Bool} {x : Strung} {before : List ℕ} {zs : List (List ℕ)} {m out : List ℕ} {d n : ℕ} (g : Round read x before zs m out d n) where
  abbrev at : State
  at = state_at m

  -- ONE BLOCK MORE
  module _ (xs ys : List (List ℕ)) (parts : zs ≡ xs ++ ys) (h : List ℕ) {values : List ℕ} {k : ℕ} (is : strung at xs ≡ strung_block at h k values) {m' : List ℕ} (e : m' ≡ image_of (block_left at h)) where
    left : m' ≡ image_of (strung at xs).state
    left = e ∙ ap (λ (y : Strung). image_of y.state) (sym is)

    pub next_image : IsImage m'
    next_image = image_strung g.image xs left

    pub next_round : {next l : List ℕ} {j : ℕ} → stores read (strung_block at h k values) ≡ l → j ≡ n + length l → next ≡ (take n out ++ l) ++ drop j out
        → j ≤ length out → Round read x before ys m' next (d + k) j
    unfolding block_left
    next_round same count stored room =
        let reached : state_at m' ≡ block_left at h = state_strung g.image xs left ∙ ap (λ (y : Strung). y.state) is in
        record {
          image = next_image;
          rest = rest_strung g.image xs left g.rest;
          opened = ap (λ (t : State). shut_to_words read t.registers) reached ∙ g.opened;
          goes =
              more_done at xs ys is refl reached (subst (λ (z : List (List ℕ)). Continues read x before (strung at z) out d n) parts g.goes) same count
              stored room;
        }

  -- THE END: no word is left, or one is refused
  ends : {a b : Code} → strung at zs ≡ nothing at a → b ≡ a → IsPassed x (stores read x) before m out (record { done = d; count = n; code = b })
  ends {a} e q =
      let k = g.goes in
      let l : stores read x ≡ take n out =
      k.stored ∙ ap (λ (y : List ℕ). take n out ++ y) (ap (stores read) e ∙ none_stored read at a) ∙ append-nil (take n out) in
      let size : length (stores read x) ≡ n = ap length l ∙ length-take-le n out k.within in
      record {
        image = g.image.packed ∙ ap image_of (sym (k.state ∙ ap (λ (y : Strung). y.state) e));
        done = omega (arith, k.done, ap (λ (y : Strung). y.done) e);
        count = sym size;
        code = q ∙ sym (k.code ∙ ap (λ (y : Strung). y.code) e);
        buffer =
            sym (take-append-drop n out)
            ∙ ap (λ (y : List ℕ). y ++ drop n out) (sym l)
            ∙ ap (λ (y : List ℕ). stores read x ++ y) k.behind
            ∙ ap (λ (y : ℕ). stores read x ++ drop y before) (sym size);
      }

  pub none_left : zs ≡ [] → {b : Code} → b ≡ Done → IsPassed x (stores read x) before m out (record { done = d; count = n; code = b })
  unfolding strung strung_none
  none_left z q = ends (ap (strung at) z) q

  pub one_refused : {word : List ℕ} {more : List (List ℕ)} → zs ≡ word ∷ more → {a : Code} (value : ℕ) → step at word ≡ refused at a value → is_refusal a ≡ true
      → {b : Code} → b ≡ a → IsPassed x (stores read x) before m out (record { done = d; count = n; code = b })
  unfolding strung one_then stopped ended
  one_refused {word} {more} z value r f q =
      ends (ap (strung at) z ∙ ap (λ (y : Stepped). one_then y (strung y.state more)) r ∙ rw f) q
