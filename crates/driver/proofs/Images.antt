-- Calls over images are traces of the definition: the images stand for its states, and the buffers hold its answers.
use mathlib.Core.Path.{◌≡◌, refl, ap, sym, subst, ◌∙◌}
use mathlib.Core.Bool.{Bool, true, false}
use mathlib.Core.List.{List, [], ◌∷◌}
use Prim.Native.Nat.{ℕ}
use lib.Dec.{eqb}
use lib.ListN.{length}
use Rattle.rules.specs.State.{State}
use Rattle.rules.specs.Answers.{answer_size}
use Rattle.rules.specs.Codes.{number_of}
use Rattle.rules.specs.Step.{called, ended, step, answer, after}
use Rattle.rules.proofs.Logic.{never}
use Rattle.image.specs.Image.{image_of, state_at}
use Rattle.image.proofs.ReadBack.{read_back}
use Rattle.saved.specs.Accepted.{same_bytes}
use Rattle.saved.proofs.Truth.{same_true, equal_same}
use Rattle.saved.proofs.Acceptance.{Acceptable, acceptable_accepted, step_acceptable}
use Rattle.host.specs.ImageCalls.{Left, ImageCall, called_over, image_called}
use Rattle.driver.specs.Exchanges.{Exchange, is_answered, handed, handed_over, code_of}
use Rattle.driver.specs.Calls.{Ranged, Trace}
use Rattle.driver.specs.ImageChains.{HostCall, IsMade, ImageChain, last_image, exchange_over, exchanges_over, AllMade, is_latest, put, chains_of, AllChains, all_calls}
use Rattle.driver.proofs.Shown.{empty_refused, code_shown}
use Rattle.driver.proofs.Traces.{ranged_step}
use Rattle.driver.proofs.Steps.{answer_size_lem}

pub image_ranged : (m : List ℕ) → Acceptable m → Ranged (state_at m)
image_ranged m a = record { range = a.image.range; bytes = a.image.bytes }

-- what one call is to a driver: an answer of the state that the image stands for, the image of the next, and the code
pub record StepsImage (s : State) (x : Exchange) (image : List ℕ) (code : ℕ) : Type 0 where
  pub answered : is_answered x ≡ true → x.buffer ≡ answer s x.bytes
  pub next : image ≡ image_of (step s (handed x)).state
  pub number : code ≡ number_of (step s (handed x)).code

module _ (k : HostCall) (a : Acceptable k.image) (made : IsMade k) where
  abbrev s : State
  s = state_at k.image

  abbrev x : Exchange
  x = exchange_over k

  -- an accepted image is stepped
  over : Left (called_over k.image k.bytes k.before) k.left k.buffer k.code
  unfolding image_called
  over = rw (acceptable_accepted k.image a) at made

  with_sixteen : eqb (length k.before) answer_size ≡ true → StepsImage s x k.left k.code
  unfolding called
  with_sixteen e =
      let b : k.buffer ≡ answer s k.bytes = over.buffer ∙ rw e in
      let m : k.left ≡ image_of (step s k.bytes).state = over.image ∙ rw e in
      let n : k.code ≡ number_of (step s k.bytes).code = over.code ∙ rw e in
      let sized : is_answered x ≡ true = rw b (answer_size_lem s k.bytes (image_ranged k.image a)) in
      record { answered = λ q. b; next = m ∙ rw sized; number = n ∙ rw sized }

  with_another : eqb (length k.before) answer_size ≡ false → StepsImage s x k.left k.code
  unfolding called ended
  with_another e =
      let b : k.buffer ≡ k.before = over.buffer ∙ rw e in
      let m : k.left ≡ image_of s = over.image ∙ rw e in
      let n : k.code ≡ 1 = over.code ∙ rw e in
      let unsized : is_answered x ≡ false = rw b e in
      record {
        answered = λ q. absurd (never (sym unsized ∙ q));
        next = m ∙ rw (unsized, empty_refused s);
        number = n ∙ rw (unsized, empty_refused s);
      }

  pub image_steps : StepsImage s x k.left k.code
  image_steps = go (eqb (length k.before) answer_size) refl
    where
      go : (t : Bool) → eqb (length k.before) answer_size ≡ t → StepsImage s x k.left k.code
      go true e = with_sixteen e
      go false e = with_another e

  pub left_acceptable : Acceptable k.left
  left_acceptable = subst Acceptable (sym image_steps.next) (step_acceptable k.image a (handed x))

  pub left_state : state_at k.left ≡ (step s (handed x)).state
  left_state =
      ap state_at image_steps.next ∙ read_back (step s (handed x)).state (ranged_step s (handed x) (image_ranged k.image a)).range

  -- the code returned is the one that the driver finds in the buffer
  pub code_returned : k.code ≡ code_of x
  code_returned = image_steps.number ∙ sym (code_shown s x (image_ranged k.image a) image_steps.answered)

-- THE CALLS OF A CHAIN ARE STEPS: the buffers hold the answers of the states, one after the other
pub chain_trace : (image : List ℕ) (ks : List HostCall) → Acceptable image → ImageChain image ks → Trace (state_at image) (exchanges_over ks)
chain_trace image [] a h = tt
chain_trace image (k ∷ more) a h =
    let b : Acceptable k.image = subst Acceptable (sym h.0) a in
    let made = h.1.0 in
    let later = chain_trace k.left more (left_acceptable k b made) h.1.1 in
    subst (λ (m : List ℕ). Trace (state_at m) (exchanges_over (k ∷ more))) h.0
    ((image_steps k b made).answered, rw (left_state k b made) at later)

-- and the last image is that of the state after the records
pub images_are_states :
    (image : List ℕ) (ks : List HostCall) → Acceptable image → ImageChain image ks →
    last_image image ks ≡ image_of (after (state_at image) (handed_over (exchanges_over ks)))
images_are_states image [] a h = a.image.packed
images_are_states image (k ∷ more) a h =
    let b : Acceptable k.image = subst Acceptable (sym h.0) a in
    let made = h.1.0 in
    images_are_states k.left more (left_acceptable k b made) h.1.1
    ∙ ap (λ (s : State). image_of (after s (handed_over (exchanges_over more)))) (left_state k b made)
    ∙ ap (λ (m : List ℕ). image_of (after (state_at m) (handed_over (exchanges_over (k ∷ more))))) h.0

-- a call on an image, as the contract says
abbrev pub call_on : List ℕ → List ℕ → List ℕ → HostCall
call_on image bytes before =
    let r : ImageCall = image_called image bytes before in
    record { image = image; bytes = bytes; before = before; left = r.image; buffer = r.buffer; code = r.code }

pub call_on_made : (image bytes before : List ℕ) → IsMade (call_on image bytes before)
call_on_made image bytes before = record { image = refl; buffer = refl; code = refl }

-- every trace is what some chain leaves: each call is lent a buffer of the size that it shows
lent_shown :
    (image : List ℕ) (x : Exchange) → Acceptable image → (is_answered x ≡ true → x.buffer ≡ answer (state_at image) x.bytes) →
    (call_on image x.bytes x.buffer).buffer ≡ x.buffer
unfolding image_called called
lent_shown image x a h = rw (acceptable_accepted image a) (go (is_answered x) refl)
  where
    go : (t : Bool) → is_answered x ≡ t → (called (state_at image) x.bytes x.buffer).buffer ≡ x.buffer
    go true e = rw e (sym (h e))
    go false e = rw e

pub trace_chain :
    (image : List ℕ) (xs : List Exchange) → Acceptable image → Trace (state_at image) xs →
    (ks : List HostCall) × (ImageChain image ks × (exchanges_over ks ≡ xs))
trace_chain image [] a t = ([], (tt, refl))
trace_chain image (x ∷ more) a t =
    let k = call_on image x.bytes x.buffer in
    let made = call_on_made image x.bytes x.buffer in
    let same : exchange_over k ≡ x = ap (λ (b : List ℕ). record { bytes = x.bytes; buffer = b }) (lent_shown image x a t.0) in
    let state : state_at k.left ≡ (step (state_at image) (handed x)).state =
    left_state k a made ∙ ap (λ (y : Exchange). (step (state_at image) (handed y)).state) same in
    let later = trace_chain k.left more (left_acceptable k a made) (rw state t.1) in
    (k ∷ later.0, ((refl, (made, later.1.0)), λ i. same i ∷ later.1.1 i))

-- ANY CALLS FALL INTO CHAINS: each of the chains is one, and they are the calls in their order
put_calls : (t : Bool) (k : HostCall) (chains : List (List HostCall)) → all_calls (put t k chains) ≡ k ∷ all_calls chains
put_calls true k [] = refl
put_calls true k (chain ∷ more) = refl
put_calls false k chains = refl

pub chains_whole : (ks : List HostCall) → all_calls (chains_of ks) ≡ ks
chains_whole [] = refl
chains_whole (k ∷ more) =
    put_calls (is_latest k more) k (chains_of more) ∙ ap (λ (l : List HostCall). k ∷ l) (chains_whole more)

-- the first of the chains begins with the first of the calls
abbrev BeginsAt : List ℕ → List (List HostCall) → Type 0
BeginsAt image [] = Unit {0}
BeginsAt image (chain ∷ more) = ImageChain image chain × AllChains more

begins_put :
    (t : Bool) (k : HostCall) (chains : List (List HostCall)) → IsMade k → (t ≡ true → BeginsAt k.left chains) → AllChains chains →
    BeginsAt k.image (put t k chains)
begins_put true k [] made next h = ((refl, (made, tt)), tt)
begins_put true k (chain ∷ more) made next h = ((refl, (made, (next refl).0)), h.1)
begins_put false k chains made next h = ((refl, (made, tt)), h)

are_chains : (image : List ℕ) (chains : List (List HostCall)) → BeginsAt image chains → AllChains chains
are_chains image [] h = tt
are_chains image ([] ∷ more) h = (tt, h.1)
are_chains image ((k ∷ chain) ∷ more) h = ((refl, h.0.1), h.1)

first_begins : (k : HostCall) (more : List HostCall) → AllMade (k ∷ more) → BeginsAt k.image (chains_of (k ∷ more))
first_begins k [] h = ((refl, (h.0, tt)), tt)
first_begins k (next ∷ more) h =
    let later = first_begins next more h.1 in
    begins_put (is_latest k (next ∷ more)) k (chains_of (next ∷ more)) h.0
    (λ e. subst (λ (m : List ℕ). BeginsAt m (chains_of (next ∷ more))) (same_true next.image k.left e) later)
    (are_chains next.image (chains_of (next ∷ more)) later)

pub chains_are : (ks : List HostCall) → AllMade ks → AllChains (chains_of ks)
chains_are [] h = tt
chains_are (k ∷ more) h = are_chains k.image (chains_of (k ∷ more)) (first_begins k more h)

-- and calls that are a chain fall into one
abbrev pub in_one : List HostCall → List (List HostCall)
in_one [] = []
in_one (k ∷ more) = (k ∷ more) ∷ []

pub chain_is_one : (image : List ℕ) (ks : List HostCall) → ImageChain image ks → chains_of ks ≡ in_one ks
chain_is_one image [] h = refl
chain_is_one image (k ∷ []) h = refl
chain_is_one image (k ∷ next ∷ more) h =
    let e : same_bytes next.image k.left ≡ true = equal_same next.image k.left h.1.1.0 in
    rw (e, chain_is_one k.left (next ∷ more) h.1.1)
