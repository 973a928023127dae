-- Deeds of a host are traces of the definition: a string call is its words done one after the other, and what the host has in its hands
-- of it is what they show.
use Prim.Native.Nat.{ℕ, ◌*◌, ◌%◌}
use mathlib.Core.Path.{◌≡◌, refl, ap, ap₂, sym, subst, ◌∙◌}
use mathlib.Core.Bool.{Bool, true, false, ◌&&◌, and_assoc, and-true}
use mathlib.Core.List.{List, [], ◌∷◌, ◌++◌, append_assoc, append-nil}
use lib.ListN.{length, take, drop, take-append-drop, length-append}
use lib.Seq.{drop-drop}
use Rattle.rules.specs.State.{State}
use Rattle.rules.specs.Ranges.{Bytes}
use Rattle.rules.specs.Step.{step, after}
use Rattle.rules.specs.declared.records.Event.{Event}
use Rattle.rules.specs.declared.records.Event.TheVariants.{WordWrite, WordRead}
use Rattle.rules.proofs.Logic.{left_true, right_true}
use Rattle.image.specs.Image.{image_of, state_at}
use Rattle.image.proofs.ReadBack.{read_back}
use Rattle.saved.specs.Accepted.{accepted}
use Rattle.saved.proofs.Acceptance.{Acceptable, accepted_acceptable, step_acceptable}
use Rattle.runs.specs.Comes.{along, all_come, may_come as recordMayCome}
use Rattle.runs.specs.Run.{Starts, run_allows, accepted as acceptedAlong, sent_by, host_read}
use Rattle.runs.proofs.Along.{after_append}
use Rattle.runs.proofs.Acks.{step_pairs}
use Rattle.runs.proofs.Stages.{Held, held_at_start}
use Rattle.words.specs.Words.{word_writes, word_reads}
use Rattle.driver.specs.Exchanges.{Exchange, handed, handed_over, taken_of, accepted_of, read_of, may_come, all_over, over}
use Rattle.driver.specs.Driving.{Offers, Goes}
use Rattle.driver.specs.Calls.{Trace}
use Rattle.driver.specs.DemandThree.{DemandThree}
use Rattle.driver.specs.ImageChains.{exchange_over}
use Rattle.driver.specs.Strings.{Deed, by_step, by_write, by_read, handed_in, left_by, IsDeed, DeedChain, last_left, answered_from, exchanges_by, exchanges_of_deeds, taken_by, offered_by, accepted_by, read_by, over_deeds, DeedsOffer, deed_may_come, all_deeds, WriteInHand, ReadInHand}
use Rattle.driver.proofs.Traces.{handed_append, over_append, ranged_step, ranged_after, comes_along, taken_along}
use Rattle.driver.proofs.Images.{image_ranged, image_steps}
use Rattle.driver.proofs.StringWords.{answered_handed, answered_trace, answered_accepts, answered_reads, answered_comes, writes_come, writes_accept, writes_hand_none, reads_come, reads_accept_none, none_in_write_run, reads_hand, writes_offer, reads_offer}
use Rattle.driver.proofs.StringWrites.{write_gives, by_fit}
use Rattle.driver.proofs.StringReads.{read_gives}
use Rattle.driver.proofs.DemandThree.{demand_three}

-- WHAT RECORDS LEAVE OF AN ACCEPTED IMAGE IS ACCEPTED
pub after_acceptable : (m : List ℕ) (records : List (List ℕ)) → Acceptable m → Acceptable (image_of (after (state_at m) records))
after_acceptable m [] a = subst Acceptable a.image.packed a
after_acceptable m (bytes ∷ more) a =
    let n = (step (state_at m) bytes).state in
    let e : state_at (image_of n) ≡ n = read_back n (ranged_step (state_at m) bytes (image_ranged m a)).range in
    subst (λ (x : State). Acceptable (image_of (after x more))) e (after_acceptable (image_of n) more (step_acceptable m a bytes))

-- lists of exchanges join
pub trace_join : (s : State) (a b : List Exchange) → Trace s a → Trace (after s (handed_over a)) b → Trace s (a ++ b)
trace_join s [] b t u = u
trace_join s (x ∷ a) b t u = (t.0, trace_join (step s (handed x)).state a b t.1 u)

pub all_append : (f : Exchange → Bool) (a b : List Exchange) → all_over f (a ++ b) ≡ (all_over f a && all_over f b)
all_append f [] b = refl
all_append f (x ∷ a) b = ap (λ (t : Bool). f x && t) (all_append f a b) ∙ sym (and_assoc (f x) (all_over f a) (all_over f b))

pub offers_join :
    (rest : List ℕ) (a b : List Exchange) → Offers rest a → Offers (drop (length (over accepted_of a)) rest) b → Offers rest (a ++ b)
offers_join rest [] b h q = q
offers_join rest (x ∷ a) b h q =
    let e : drop (length (over accepted_of (x ∷ a))) rest ≡ drop (length (over accepted_of a)) (drop (length (accepted_of x)) rest) =
    ap (λ (n : ℕ). drop n rest) (length-append (accepted_of x) (over accepted_of a))
    ∙ sym (drop-drop (length (over accepted_of a)) (length (accepted_of x)) rest) in
    (h.0, offers_join (drop (length (accepted_of x)) rest) a b h.1 (subst (λ (l : List ℕ). Offers l b) e q))

-- a run keeps what it holds of the registers
held_along :
    (s : State) (records : List (List ℕ)) → Held true s.registers → all_come run_allows s records ≡ true →
    Held true (after s records).registers
held_along s [] h q = h
held_along s (bytes ∷ more) h q =
    let later = all_come run_allows (step s bytes).state more in
    let p = step_pairs s h bytes (left_true (recordMayCome run_allows s bytes) later q) in
    held_along (step s bytes).state more p.held (right_true (recordMayCome run_allows s bytes) later q)

-- ONE DEED: it stands for its exchanges
pub record Stands (d : Deed) : Type 0 where
  pub trace : Trace (state_at (handed_in d)) (exchanges_by d)
  pub next : left_by d ≡ image_of (after (state_at (handed_in d)) (handed_over (exchanges_by d)))
  pub accepts : over accepted_of (exchanges_by d) ≡ accepted_by d
  pub reads : over read_of (exchanges_by d) ≡ read_by d
  pub comes :
      (allows : Event → Bool) → ((word : ℕ) → allows (WordWrite word) ≡ true) → allows WordRead ≡ true →
      all_over (may_come allows) (exchanges_by d) ≡ deed_may_come allows d
  pub takes :
      Held true (state_at (handed_in d)).registers → all_over (may_come run_allows) (exchanges_by d) ≡ true →
      over taken_of (exchanges_by d) ≡ taken_by d

pub stands : (d : Deed) → Acceptable (handed_in d) → IsDeed d → Stands d
stands (by_step k) a made =
    let x = exchange_over k in
    record {
      trace = ((image_steps k a made).answered, tt);
      next = (image_steps k a made).next;
      accepts = append-nil (accepted_of x);
      reads = append-nil (read_of x);
      comes = λ allows f g. and-true (may_come allows x);
      takes = λ h q. append-nil (taken_of x);
    }
stands (by_write k) a made =
    let s = state_at k.image in
    let records = word_writes k.words k.bytes in
    let rs = take k.done records in
    let i = image_ranged k.image a in
    let g = write_gives k a made.1 in
    record {
      trace = answered_trace s rs i;
      next = g.next ∙ ap (λ (l : List (List ℕ)). image_of (after s l)) (sym (answered_handed s rs i));
      accepts =
          answered_accepts s rs i
          ∙ by_fit k a made.1 (λ n. along acceptedAlong s (take n records) ≡ take (2 * n) k.bytes) refl
          (λ e. writes_accept s k.done k.words k.bytes made.0 e g.unrefused);
      reads =
          answered_reads s rs i
          ∙ by_fit k a made.1 (λ n. along host_read s (take n records) ≡ []) refl
          (λ e. writes_hand_none s k.done k.words k.bytes made.0 e);
      comes =
          λ allows f r.
          answered_comes s rs i allows
          ∙ by_fit k a made.1 (λ n. all_come allows s (take n records) ≡ true) refl
          (λ e. writes_come allows f s k.done k.words k.bytes made.0 e);
      takes =
          λ h q.
          taken_along s (answered_from s rs) i (answered_trace s rs i) h
          (sym (comes_along run_allows s (answered_from s rs) i (answered_trace s rs i)) ∙ q)
          ∙ ap (along sent_by s) (answered_handed s rs i) ∙ sym g.sent;
    }
stands (by_read k) a made =
    let s = state_at k.image in
    let rs = take k.done (word_reads k.words) in
    let i = image_ranged k.image a in
    let g = read_gives k a made in
    record {
      trace = answered_trace s rs i;
      next = g.next ∙ ap (λ (l : List (List ℕ)). image_of (after s l)) (sym (answered_handed s rs i));
      accepts = answered_accepts s rs i ∙ reads_accept_none s k.done k.words;
      reads = reads_hand s k.done k.words i g.unrefused ∙ sym g.values;
      comes = λ allows f r. answered_comes s rs i allows ∙ reads_come allows r s k.done k.words;
      takes =
          λ h q.
          ap (λ (l : List (List ℕ)). over taken_of (answered_from s l))
          (none_in_write_run s k.done k.words h.direction g.unrefused);
    }

-- and so it offers what its exchanges offer: of a write call the words done are the first of its data
deed_offers :
    (d : Deed) → Acceptable (handed_in d) → IsDeed d → (rest : List ℕ) → take (length (offered_by d)) rest ≡ offered_by d →
    Offers rest (exchanges_by d)
deed_offers (by_step k) a made rest h = (h, tt)
deed_offers (by_write k) a made rest h =
    let s = state_at k.image in
    let records = word_writes k.words k.bytes in
    let i = image_ranged k.image a in
    let later = drop (length k.bytes) rest in
    let e : k.bytes ++ later ≡ rest = ap (λ (l : List ℕ). l ++ later) (sym h) ∙ take-append-drop (length k.bytes) rest in
    subst (λ (l : List ℕ). Offers l (exchanges_by (by_write k))) e
    (by_fit k a made.1 (λ n. Offers (k.bytes ++ later) (answered_from s (take n records))) tt
    (λ f. writes_offer s k.done k.words k.bytes later i made.0 f (write_gives k a made.1).unrefused))
deed_offers (by_read k) a made rest h = reads_offer (state_at k.image) k.done k.words rest (image_ranged k.image a)

-- where it leaves the chip
module _ (d : Deed) (a : Acceptable (handed_in d)) (made : IsDeed d) where
  pub deed_leaves : state_at (left_by d) ≡ after (state_at (handed_in d)) (handed_over (exchanges_by d))
  deed_leaves =
      ap state_at (stands d a made).next
      ∙ read_back (after (state_at (handed_in d)) (handed_over (exchanges_by d)))
      (ranged_after (state_at (handed_in d)) (handed_over (exchanges_by d)) (image_ranged (handed_in d) a)).range

  pub deed_acceptable : Acceptable (left_by d)
  deed_acceptable =
      subst Acceptable (sym (stands d a made).next) (after_acceptable (handed_in d) (handed_over (exchanges_by d)) a)

-- A CHAIN OF DEEDS
abbrev first : {image : List ℕ} (d : Deed) (more : List Deed) → Acceptable image → DeedChain image (d ∷ more) → Acceptable (handed_in d)
first d more a h = subst Acceptable (sym h.0) a

abbrev second : {image : List ℕ} (d : Deed) (more : List Deed) → Acceptable image → DeedChain image (d ∷ more) → Acceptable (left_by d)
second d more a h = deed_acceptable d (first d more a h) h.1.0

pub deeds_trace : (image : List ℕ) (ds : List Deed) → Acceptable image → DeedChain image ds → Trace (state_at image) (exchanges_of_deeds ds)
deeds_trace image [] a h = tt
deeds_trace image (d ∷ more) a h =
    let b = first d more a h in
    let later = deeds_trace (left_by d) more (second d more a h) h.1.1 in
    subst (λ (m : List ℕ). Trace (state_at m) (exchanges_of_deeds (d ∷ more))) h.0
    (trace_join (state_at (handed_in d)) (exchanges_by d) (exchanges_of_deeds more) (stands d b h.1.0).trace
    (subst (λ (s : State). Trace s (exchanges_of_deeds more)) (deed_leaves d b h.1.0) later))

-- THE IMAGE THAT IT LEAVES IS ACCEPTED, and is that of the state after the exchanges
pub deeds_acceptable : (image : List ℕ) (ds : List Deed) → Acceptable image → DeedChain image ds → Acceptable (last_left image ds)
deeds_acceptable image [] a h = a
deeds_acceptable image (d ∷ more) a h = deeds_acceptable (left_by d) more (second d more a h) h.1.1

pub deeds_leave :
    (image : List ℕ) (ds : List Deed) → Acceptable image → DeedChain image ds →
    last_left image ds ≡ image_of (after (state_at image) (handed_over (exchanges_of_deeds ds)))
deeds_leave image [] a h = a.image.packed
deeds_leave image (d ∷ more) a h =
    let b = first d more a h in
    let s = state_at (handed_in d) in
    deeds_leave (left_by d) more (second d more a h) h.1.1
    ∙ ap (λ (x : State). image_of (after x (handed_over (exchanges_of_deeds more)))) (deed_leaves d b h.1.0)
    ∙ ap image_of (sym (after_append s (handed_over (exchanges_by d)) (handed_over (exchanges_of_deeds more))))
    ∙ ap (λ (l : List (List ℕ)). image_of (after s l)) (sym (handed_append (exchanges_by d) (exchanges_of_deeds more)))
    ∙ ap (λ (m : List ℕ). image_of (after (state_at m) (handed_over (exchanges_of_deeds (d ∷ more))))) h.0

pub deeds_state :
    (image : List ℕ) (ds : List Deed) → Acceptable image → DeedChain image ds →
    state_at (last_left image ds) ≡ after (state_at image) (handed_over (exchanges_of_deeds ds))
deeds_state image ds a h =
    let s = state_at image in
    ap state_at (deeds_leave image ds a h)
    ∙ read_back (after s (handed_over (exchanges_of_deeds ds)))
    (ranged_after s (handed_over (exchanges_of_deeds ds)) (image_ranged image a)).range

-- deeds in two parts
pub exchanges_append : (a b : List Deed) → exchanges_of_deeds (a ++ b) ≡ exchanges_of_deeds a ++ exchanges_of_deeds b
exchanges_append [] b = refl
exchanges_append (d ∷ a) b =
    ap (λ (l : List Exchange). exchanges_by d ++ l) (exchanges_append a b)
    ∙ sym (append_assoc (exchanges_by d) (exchanges_of_deeds a) (exchanges_of_deeds b))

pub chain_join : (image : List ℕ) (a b : List Deed) → DeedChain image a → DeedChain (last_left image a) b → DeedChain image (a ++ b)
chain_join image [] b h q = q
chain_join image (d ∷ a) b h q = (h.0, (h.1.0, chain_join (left_by d) a b h.1.1 q))

pub chain_parts :
    (image : List ℕ) (a b : List Deed) → DeedChain image (a ++ b) → DeedChain image a × DeedChain (last_left image a) b
chain_parts image [] b h = (tt, h)
chain_parts image (d ∷ a) b h =
    let later = chain_parts (left_by d) a b h.1.1 in
    ((h.0, (h.1.0, later.0)), later.1)

-- WHAT THE HOST HAS IN ITS HANDS IS WHAT THE EXCHANGES SAY
pub accepted_in_hand :
    (image : List ℕ) (ds : List Deed) → Acceptable image → DeedChain image ds →
    over accepted_of (exchanges_of_deeds ds) ≡ over_deeds accepted_by ds
accepted_in_hand image [] a h = refl
accepted_in_hand image (d ∷ more) a h =
    over_append accepted_of (exchanges_by d) (exchanges_of_deeds more)
    ∙ ap₂ (λ (x y : List ℕ). x ++ y) (stands d (first d more a h) h.1.0).accepts
    (accepted_in_hand (left_by d) more (second d more a h) h.1.1)

pub read_in_hand_lem :
    (image : List ℕ) (ds : List Deed) → Acceptable image → DeedChain image ds → over read_of (exchanges_of_deeds ds) ≡ over_deeds read_by ds
read_in_hand_lem image [] a h = refl
read_in_hand_lem image (d ∷ more) a h =
    over_append read_of (exchanges_by d) (exchanges_of_deeds more)
    ∙ ap₂ (λ (x y : List ℕ). x ++ y) (stands d (first d more a h) h.1.0).reads
    (read_in_hand_lem (left_by d) more (second d more a h) h.1.1)

pub deeds_come :
    (allows : Event → Bool) → ((word : ℕ) → allows (WordWrite word) ≡ true) → allows WordRead ≡ true →
    (image : List ℕ) (ds : List Deed) → Acceptable image → DeedChain image ds →
    all_over (may_come allows) (exchanges_of_deeds ds) ≡ all_deeds (deed_may_come allows) ds
deeds_come allows f g image [] a h = refl
deeds_come allows f g image (d ∷ more) a h =
    all_append (may_come allows) (exchanges_by d) (exchanges_of_deeds more)
    ∙ ap₂ (λ (x y : Bool). x && y) ((stands d (first d more a h) h.1.0).comes allows f g)
    (deeds_come allows f g (left_by d) more (second d more a h) h.1.1)

-- in a write run the bytes taken
taken_from :
    (image : List ℕ) (ds : List Deed) → Acceptable image → DeedChain image ds → Held true (state_at image).registers →
    all_over (may_come run_allows) (exchanges_of_deeds ds) ≡ true → over taken_of (exchanges_of_deeds ds) ≡ over_deeds taken_by ds
taken_from image [] a h held q = refl
taken_from image (d ∷ more) a h held q =
    let b = first d more a h in
    let made = h.1.0 in
    let s = state_at (handed_in d) in
    let i = image_ranged (handed_in d) b in
    let both = sym (all_append (may_come run_allows) (exchanges_by d) (exchanges_of_deeds more)) ∙ q in
    let one = left_true (all_over (may_come run_allows) (exchanges_by d)) (all_over (may_come run_allows) (exchanges_of_deeds more)) both in
    let two = right_true (all_over (may_come run_allows) (exchanges_by d)) (all_over (may_come run_allows) (exchanges_of_deeds more)) both in
    let there : Held true s.registers = subst (λ (m : List ℕ). Held true (state_at m).registers) (sym h.0) held in
    let come = sym (comes_along run_allows s (exchanges_by d) i (stands d b made).trace) ∙ one in
    let later = held_along s (handed_over (exchanges_by d)) there come in
    over_append taken_of (exchanges_by d) (exchanges_of_deeds more)
    ∙ ap₂ (λ (x y : List ℕ). x ++ y) ((stands d b made).takes there one)
    (taken_from (left_by d) more (second d more a h) h.1.1
    (subst (λ (x : State). Held true x.registers) (sym (deed_leaves d b made)) later) two)

pub taken_in_hand_lem :
    (image : List ℕ) (ds : List Deed) → Acceptable image → DeedChain image ds → Starts true (state_at image) →
    all_deeds (deed_may_come run_allows) ds ≡ true → over taken_of (exchanges_of_deeds ds) ≡ over_deeds taken_by ds
taken_in_hand_lem image ds a h start q =
    taken_from image ds a h (held_at_start true (state_at image) start) (deeds_come run_allows (λ word. refl) refl image ds a h ∙ q)

-- A CALL THAT STOPPED OFFERS ITS REST AGAIN: deeds that offer the data in order are exchanges that do
pub deeds_offer :
    (image : List ℕ) (ds : List Deed) (rest : List ℕ) → Acceptable image → DeedChain image ds → DeedsOffer rest ds →
    Offers rest (exchanges_of_deeds ds)
deeds_offer image [] rest a h q = tt
deeds_offer image (d ∷ more) rest a h q =
    let b = first d more a h in
    let made = h.1.0 in
    offers_join rest (exchanges_by d) (exchanges_of_deeds more) (deed_offers d b made rest q.0)
    (subst (λ (l : List ℕ). Offers (drop (length l) rest) (exchanges_of_deeds more)) (sym (stands d b made).accepts)
    (deeds_offer (left_by d) more (drop (length (accepted_by d)) rest) (second d more a h) h.1.1 q.1))

-- so a run by deeds goes as demand 3 has it
pub deeds_go :
    (image : List ℕ) (ds : List Deed) (rest : List ℕ) → Acceptable image → DeedChain image ds →
    all_deeds (deed_may_come run_allows) ds ≡ true → DeedsOffer rest ds → Goes rest (exchanges_of_deeds ds)
deeds_go image ds rest a h come q =
    record { run = deeds_come run_allows (λ word. refl) refl image ds a h ∙ come; offers = deeds_offer image ds rest a h q }

-- DEMAND 3 OF EVERY CHAIN OF DEEDS from an accepted image
pub demand_three_of_deeds :
    (image : List ℕ) (ds : List Deed) → Bytes image → accepted image ≡ true → DeedChain image ds →
    DemandThree (state_at image) (exchanges_of_deeds ds)
demand_three_of_deeds image ds b e h =
    let a = accepted_acceptable image b e in
    demand_three (state_at image) (exchanges_of_deeds ds) (image_ranged image a) (deeds_trace image ds a h)

-- IN THE HOST'S HANDS, at every moment of a run by deeds from an accepted image where it starts
module _ (image : List ℕ) (ds : List Deed) (b : Bytes image) (e : accepted image ≡ true) (h : DeedChain image ds) (come : all_deeds (deed_may_come run_allows) ds ≡ true) where
  abbrev xs : List Exchange
  xs = exchanges_of_deeds ds

  acceptable : Acceptable image
  acceptable = accepted_acceptable image b e

  run_comes : all_over (may_come run_allows) xs ≡ true
  run_comes = deeds_come run_allows (λ word. refl) refl image ds acceptable h ∙ come

  pub write_in_hand_lem : Starts true (state_at image) → WriteInHand image ds
  write_in_hand_lem start =
      let m = (demand_three_of_deeds image ds b e h).moment [] xs [] (sym (append-nil xs)) start run_comes in
      let t = taken_in_hand_lem image ds acceptable h start come in
      let n = deeds_state image ds acceptable h in
      record {
        order =
            ap₂ (λ (l : List ℕ) (s : State). l ++ (s.transfer.scsi ++ s.transfer.host)) (sym t) n ∙ m.order
            ∙ accepted_in_hand image ds acceptable h;
        count =
            ap (λ (s : State). s.transfer.counter) n ∙ m.count ∙ ap (λ (l : List ℕ). length l % 16777216) t;
      }

  pub reads_in_hand : Starts false (state_at image) → ReadInHand image ds
  reads_in_hand start =
      let m = (demand_three_of_deeds image ds b e h).reading [] xs [] (sym (append-nil xs)) start run_comes in
      ap₂ (λ (l : List ℕ) (s : State). l ++ (s.transfer.host ++ s.transfer.scsi)) (sym (read_in_hand_lem image ds acceptable h))
      (deeds_state image ds acceptable h)
      ∙ m
