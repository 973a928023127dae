-- An answer's digits, and the event that a stored answer is compared with.
use Rattle.std.proofs.Common.{◌≡◌, ℕ, ◌*◌, ◌/◌, ◌≤◌, Bool, true, false, eqb, List, [], ◌∷◌, ◌++◌, length, take, drop, replicate, Option, Some, sym, refl, ap, ◌∙◌, append-nil, arith, take_all, take_at, eq-eqb, eqb-true}
use Rattle.std.proofs.lemmas.Grind.{common_steps}
use Rattle.std.proofs.lemmas.Option.{cond_some}
use Rattle.hexlines.specs.Hex.{hex_of, line_of, answers_in, Printed}
use Rattle.rules.specs.Chips.{view, chip_of}
use Rattle.rules.specs.Step.{step, answer, called}
use Rattle.rules.specs.declared.chip.Chip.{Chip}
use Rattle.step.specs.Outcomes.{returned_of, IsStep}
use Rattle.step.specs.declared.Returned.{Returned}
use Rattle.stored.specs.declared.Tally.{Tally}
use Rattle.stored.specs.Words.{first_word, second_word, is_record, record_named}
use Rattle.stored.specs.Tallies.{is_same, with_event, after_event, after_record, after_event_line}
use Rattle.stored.specs.declared.words.Named.{Named}

hex_length : (l : List ℕ) → length (hex_of l) ≡ 2 * length l
hex_length [] = refl
hex_length (x ∷ l) = omega (arith, hex_length l)

module _ (l : List ℕ) (h : length l ≡ 16) where
  digits_of : take 32 (line_of l) ≡ hex_of l
  unfolding line_of
  digits_of = take_at (hex_of l) (10 ∷ []) 32 (omega (arith, hex_length l))

  pub digits_length : (line : List ℕ) → line ≡ line_of l → 32 ≡ length (take 32 line)
  digits_length line e = rw (e, digits_of) (omega (arith, hex_length l))

  -- room for one line, and one answer
  pub line_of_lem : (after : List ℕ) (written : ℕ) → Printed l (replicate 33 0) after written → after ≡ line_of l
  line_of_lem after written p =
      let one : answers_in l (replicate 33 0) ≡ 1 = rw h in
      let all : written ≡ 33 = rw one at p.count in
      let e : after ≡ (line_of (take 16 l) ++ []) ++ drop 33 (replicate 33 0) = rw (one, all) at p.text in
      let k : length l ≤ 16 = omega arith in
      e ∙ simp (append-nil, take_all 16 l k)

same_self : (l : List ℕ) → is_same l l ≡ true
same_self [] = refl
same_self (x ∷ l) = rw (eq-eqb x x refl) (same_self l)

same_tail : (x y : ℕ) (l m : List ℕ) (t : Bool) → eqb x y ≡ t → (is_same l m ≡ true → l ≡ m) → is_same (x ∷ l) (y ∷ m) ≡ true → x ∷ l ≡ y ∷ m
same_tail x y l m true e f h =
    let p : x ≡ y = eqb-true x y e in
    let q : l ≡ m = f (rw e at h) in
    cc
same_tail x y l m false e f h = let p : false ≡ true = rw e at h in cc

same_equal : (l m : List ℕ) → is_same l m ≡ true → l ≡ m
same_equal [] [] h = refl
same_equal [] (y ∷ m) h = cc
same_equal (x ∷ l) [] h = cc
same_equal (x ∷ l) (y ∷ m) h = same_tail x y l m (eqb x y) refl (same_equal l m) h

if_true : (a b : Bool) → (a ≡ true → b ≡ true) → (b ≡ true → a ≡ true) → a ≡ b
if_true true b f g = sym (f refl)
if_true false true f g = g refl
if_true false false f g = refl

is_same_lem : (b : Bool) (l m : List ℕ) → (b ≡ true → l ≡ m) → (l ≡ m → b ≡ true) → b ≡ is_same l m
is_same_lem b l m f g = if_true b (is_same l m) (λ e. rw (f e) (same_self m)) (λ e. g (same_equal l m e))

-- an event as the step left it: the chip, and whether the stored answer is the one that came
module _ (t : Tally) (bytes stored : List ℕ) (r : Returned) (buffer line : List ℕ) (b : Bool) where
  pub event_is : IsStep t.chip bytes (replicate 16 0) buffer r → length buffer ≡ 16 → line ≡ line_of buffer
      → (b ≡ true → stored ≡ take 32 line) → (stored ≡ take 32 line → b ≡ true) → with_event t r.chip b ≡ after_event t bytes stored
  unfolding after_event called returned_of
  event_is s h p f g =
      let chip : r.chip ≡ chip_of (step (view t.chip) bytes).state = ap (λ (x : Returned). x.chip) s.returns in
      let came : buffer ≡ answer (view t.chip) bytes = s.answer in
      let digits : take 32 line ≡ hex_of (answer (view t.chip) bytes) = ap (take 32) p ∙ digits_of buffer h ∙ ap hex_of came in
      ap (λ (x : Chip). with_event t x b) chip
      ∙ ap (with_event t (chip_of (step (view t.chip) bytes).state)) (is_same_lem b stored (take 32 line) f g ∙ ap (is_same stored) digits)

-- a line that names a record, or none
module _ (t : Tally) (text first stored : List ℕ) (r : Option Named) (p : first ≡ first_word text) (q : stored ≡ second_word text) where
  pub event_line_is : r ≡ record_named first → after_record t stored r ≡ after_event_line t text
  unfolding after_event_line
  event_line_is e = rw (e, p, q)

-- a record has at most four bytes
pub record_short : (text : List ℕ) → is_record text ≡ true → length text / 2 ≤ 4
record_short text e = grind (arith, common_steps)

pub named_short : (text : List ℕ) (n : Named) → record_named text ≡ Some n → n.count ≤ 4
unfolding record_named
named_short text n e =
    let both = cond_some (is_record text) _ n e in
    let count : length text / 2 ≡ n.count = ap (λ (x : Named). x.count) both.1 in
    omega (arith, count, record_short text both.0)
