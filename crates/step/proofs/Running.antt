-- A run, one record more at a time.
use mathlib.Core.Path.{◌≡◌, refl, ap, sym, ◌∙◌}
use mathlib.Core.List.{List, [], ◌∷◌, ◌++◌, append_assoc, append-nil}
use Prim.Native.Nat.{ℕ, zero, suc, ◌+◌, ◌*◌, ◌-◌, min}
use native.Mathlib.Omega.{arith}
use native.Mathlib.Numerals.{add-one}
use lib.ListN.{length, take, drop, length-append, length-drop}
use lib.Seq.{drop-drop, take_at, drop_at}
use Rattle.rules.specs.State.{State}
use Rattle.rules.specs.Answers.{Stepped, answer_of, answer_bytes}
use Rattle.rules.specs.Ranges.{InRange, InBytes}
use Rattle.rules.specs.Step.{step, answer, after, answers}
use Rattle.rules.proofs.Ranges.{StepFits, after_fits, after_bytes}
use Rattle.rules.proofs.Reports.{step_fits}
use Rattle.laws.proofs.Lists.{padded_length, take_clamped}
use Rattle.image.specs.Image.{image_of, state_at, IsImage}
use Rattle.effects.proofs.ImageOnward.{image_is, state_is}
use Rattle.event.specs.Outcomes.{Gives}
use Rattle.event.specs.declared.stepping.Reply.{Reply}
use Rattle.step.specs.Runs.{record_at, records_of, joined, IsRecordAnswered}

records_next : (i : ℕ) (l : List ℕ) → records_of (suc i) l ≡ records_of i l ++ (record_at i l ∷ [])
records_next zero l = refl
records_next (suc i) l =
    let e : 4 + 4 * i ≡ 4 * suc i = omega arith in
    let d : drop (4 * i) (drop 4 l) ≡ drop (4 * suc i) l = drop-drop (4 * i) 4 l ∙ ap (λ (k : ℕ). drop k l) e in
    ap (λ (r : List (List ℕ)). take 4 l ∷ r)
    (records_next i (drop 4 l) ∙ ap (λ (r : List ℕ). records_of i (drop 4 l) ++ (take 4 r ∷ [])) d)

pub records_length : (i : ℕ) (l : List ℕ) → length (records_of i l) ≡ i
records_length zero l = refl
records_length (suc i) l = ap suc (records_length i (drop 4 l))

after_next : (s : State) (xs : List (List ℕ)) (x : List ℕ) → after s (xs ++ (x ∷ [])) ≡ (step (after s xs) x).state
after_next s [] x = refl
after_next s (y ∷ xs) x = after_next (step s y).state xs x

answers_next : (s : State) (xs : List (List ℕ)) (x : List ℕ) → answers s (xs ++ (x ∷ [])) ≡ answers s xs ++ (answer (after s xs) x ∷ [])
answers_next s [] x = refl
answers_next s (y ∷ xs) x =
    ap (λ (r : List (List ℕ)). answer s y ∷ r) (answers_next (step s y).state xs x)

joined_next : (ls : List (List ℕ)) (l : List ℕ) → joined (ls ++ (l ∷ [])) ≡ joined ls ++ l
joined_next [] l = append-nil l
joined_next (k ∷ ls) l = ap (λ (r : List ℕ). k ++ r) (joined_next ls l) ∙ sym (append_assoc k (joined ls) l)

answer_size_lem : (r : Stepped) → StepFits r → length (answer_bytes (answer_of r)) ≡ 16
unfolding answer_bytes answer_of
answer_size_lem r f = rw (padded_length 8 r.sent f.sent)

-- sixteen bytes, whatever the record
answer_sixteen : (s : State) (bytes : List ℕ) → InRange s → length (answer s bytes) ≡ 16
unfolding answer
answer_sixteen s bytes i = answer_size_lem (step s bytes) (step_fits s bytes i)

-- sixteen bytes for each record
pub joined_length : (s : State) (xs : List (List ℕ)) → InRange s → length (joined (answers s xs)) ≡ 16 * length xs
joined_length s [] i = refl
joined_length s (x ∷ xs) i =
    let a : length (answer s x) ≡ 16 = answer_sixteen s x i in
    let m : length (joined (answers (step s x).state xs)) ≡ 16 * length xs = joined_length (step s x).state xs (step_fits s x i).state in
    simp length-append (omega arith)

-- an answer behind those before it, in a buffer whose rest is as it was
pub placed : (front o b : List ℕ) (i : ℕ) {out : List ℕ} → length front ≡ 16 * i → out ≡ front ++ drop (16 * i) o → (take (16 * i) out ++ b) ++ drop (16 * i + 16) out ≡ (front ++ b) ++ drop (16 * (i + 1)) o
placed front o b i {out} h p =
    let start : take (16 * i) out ≡ front = rw p (take_at front (drop (16 * i) o) (16 * i) h) in
    let rest : drop (16 * i) out ≡ drop (16 * i) o = rw p (drop_at front (drop (16 * i) o) (16 * i) h) in
    let k : 16 * i + 16 ≡ 16 * (i + 1) = omega arith in
    let behind : drop (16 * i + 16) out ≡ drop (16 * (i + 1)) o =
    sym (drop-drop 16 (16 * i) out) ∙ ap (λ (r : List ℕ). drop 16 r) rest ∙ drop-drop 16 (16 * i) o ∙ ap (λ (j : ℕ). drop j o) k in
    ap (λ (r : List ℕ). (r ++ b) ++ drop (16 * i + 16) out) start ∙ ap (λ (r : List ℕ). (front ++ b) ++ r) behind

-- the last record ends where the slice does
record_part : (i n : ℕ) (l : List ℕ) → n ≡ min (4 * i + 4) (length l) → take (n - 4 * i) (drop (4 * i) l) ≡ record_at i l
record_part i n l e =
    let d : length (drop (4 * i) l) ≡ length l - 4 * i = length-drop (4 * i) l in
    take_clamped (length l - 4 * i) 4 (n - 4 * i) (drop (4 * i) l) d (omega arith)

-- one record, stepped and answered
pub turned : (m : List ℕ) (i n : ℕ) (l : List ℕ) → n ≡ min (4 * i + 4) (length l) → {k : List ℕ} {r : Reply} → Gives (step (state_at m) (take (n - 4 * i) (drop (4 * i) l))) k r → {before buffer : List ℕ} → buffer ≡ (take (16 * i) before ++ r.answer) ++ drop (16 * i + 16) before → IsRecordAnswered m l before i k buffer
unfolding answer
turned m i n l e g {before} u =
    let q = record_part i n l e in
    record {
      image = g.image ∙ ap (λ (x : List ℕ). image_of (step (state_at m) x).state) q;
      answers =
          u ∙ ap (λ (x : List ℕ). (take (16 * i) before ++ x) ++ drop (16 * i + 16) before)
          (g.answer ∙ ap (λ (x : List ℕ). answer_bytes (answer_of (step (state_at m) x))) q);
    }

-- the image and the answers after i records, and after one more
module _ (s : State) (f : InRange s) (j : InBytes s) (l o : List ℕ) (i : ℕ) {m out : List ℕ} (e : m ≡ image_of (after s (records_of i l))) (p : out ≡ joined (answers s (records_of i l)) ++ drop (16 * i) o) where
  abbrev passed : List (List ℕ)
  passed = records_of i l

  abbrev reached : State
  reached = after s passed

  reached_fits : InRange reached
  reached_fits = after_fits s passed f

  reached_bytes : InBytes reached
  reached_bytes = after_bytes s passed f j

  pub image_reached : IsImage m
  image_reached = image_is reached e reached_fits reached_bytes

  pub state_reached : state_at m ≡ reached
  state_reached = state_is reached e reached_fits reached_bytes

  front_length : length (joined (answers s passed)) ≡ 16 * i
  front_length = joined_length s passed f ∙ ap (λ (k : ℕ). 16 * k) (records_length i l)

  one_more_lem : records_of (i + 1) l ≡ passed ++ (record_at i l ∷ [])
  one_more_lem = ap (λ (k : ℕ). records_of k l) (add-one i) ∙ records_next i l

  module _ {n buffer : List ℕ} (t : IsRecordAnswered m l out i n buffer) where
    pub image_next : n ≡ image_of (after s (records_of (i + 1) l))
    image_next =
        t.image
        ∙ ap (λ (x : State). image_of (step x (record_at i l)).state) state_reached
        ∙ ap image_of (sym (ap (after s) one_more_lem ∙ after_next s passed (record_at i l)))

    pub answers_more : buffer ≡ joined (answers s (records_of (i + 1) l)) ++ drop (16 * (i + 1)) o
    answers_more =
        let whole : joined (answers s passed) ++ answer reached (record_at i l) ≡ joined (answers s (records_of (i + 1) l)) =
        sym (ap (λ (r : List (List ℕ)). joined (answers s r)) one_more_lem
        ∙ ap joined (answers_next s passed (record_at i l)) ∙ joined_next (answers s passed) (answer reached (record_at i l))) in
        t.answers
        ∙ ap (λ (x : State). (take (16 * i) out ++ answer x (record_at i l)) ++ drop (16 * i + 16) out) state_reached
        ∙ placed (joined (answers s passed)) o (answer reached (record_at i l)) i front_length p
        ∙ ap (λ (r : List ℕ). r ++ drop (16 * (i + 1)) o) whole
