-- The statements over images are not empty: a chain and a run from the image of power reset. And AN OLDER IMAGE HANDED IN: the calls are
-- no chain, demand 3 is not claimed of them, and it would be false.
use mathlib.Core.Path.{◌≡◌, refl, ap, sym, ◌∙◌}
use mathlib.Core.Bool.{true}
use mathlib.Core.List.{List, [], ◌∷◌, ◌++◌}
use Prim.Native.Nat.{ℕ}
use native.Mathlib.Omega.{arith}
use lib.ListN.{length, take, drop, get_or, replicate}
use Rattle.rules.specs.State.{power_reset}
use Rattle.rules.specs.Ranges.{Bytes}
use Rattle.rules.specs.Step.{called}
use Rattle.rules.proofs.Ranges.{bytes_zeros}
use Rattle.image.specs.Image.{image_of, state_at}
use Rattle.image.specs.Layout.{image_size}
use Rattle.saved.specs.Accepted.{same_bytes, counts_fit, unused_clear, ticks_leave, accepted}
use Rattle.saved.proofs.Truth.{same_true}
use Rattle.saved.proofs.Cases.{zeros}
use Rattle.saved.proofs.Acceptance.{accepted_acceptable}
use Rattle.step.specs.Runs.{joined}
use Rattle.host.specs.ImageCalls.{image_called, ImageRun, image_run, IsImageRun}
use Rattle.runs.specs.Run.{Starts}
use Rattle.runs.proofs.Examples.{records, follows}
use Rattle.driver.specs.Exchanges.{Exchange, taken_of, over}
use Rattle.driver.specs.Driving.{DrivesBlind, taken_so_far}
use Rattle.driver.specs.Calls.{exchanges_in}
use Rattle.driver.specs.DemandThree.{DemandThree, state_after}
use Rattle.driver.specs.ImageChains.{HostCall, ImageChain, last_image, exchanges_over, AllMade, chains_of, Claimed}
use Rattle.driver.proofs.Images.{call_on, call_on_made, trace_chain, chain_is_one}
use Rattle.driver.proofs.DemandThree.{demand_three_of_images, demand_three_of_host_calls, demand_three_of_host}
use Rattle.driver.proofs.Example.{whole, whole_trace}

-- one name opens all that a call over an image is made of
unfoldable pub calls : ℕ
unfolding follows image_of state_at same_bytes counts_fit unused_clear ticks_leave accepted image_called image_run called zeros
calls = 0

-- the image of power reset
pub zeros_bytes : Bytes zeros
unfolding zeros
zeros_bytes = bytes_zeros image_size

pub zeros_accepted : accepted zeros ≡ true
unfolding calls
zeros_accepted = refl

pub zeros_state : state_at zeros ≡ power_reset
unfolding calls
zeros_state = refl

-- A CHAIN: calls from it that leave the buffers of the two cuts and the last run
pub whole_chain : (ks : List HostCall) × (ImageChain zeros ks × (exchanges_over ks ≡ whole))
whole_chain = trace_chain zeros whole (accepted_acceptable zeros zeros_bytes zeros_accepted) (rw zeros_state whole_trace)

-- calls on an image and on those that they leave, each with a buffer of sixteen zeros
abbrev pub calls_from : List ℕ → List (List ℕ) → List HostCall
calls_from image [] = []
calls_from image (bytes ∷ more) =
    let k = call_on image bytes (replicate 16 0) in
    k ∷ calls_from k.left more

calls_chain : (image : List ℕ) (rs : List (List ℕ)) → ImageChain image (calls_from image rs)
calls_chain image [] = tt
calls_chain image (bytes ∷ more) =
    let k = call_on image bytes (replicate 16 0) in
    (refl, (call_on_made image bytes (replicate 16 0), calls_chain k.left more))

-- 16 bits, WRITE 1, SCSIEN, DMAEN: a run starts; then 41h and 42h into the port
abbrev pub begun : List (List ℕ)
begun = records (0x32000088 ∷ 0x210000E0 ∷ 0x60004241 ∷ [])

-- the image is saved here
unfoldable pub saved : List ℕ
saved = last_image zeros (calls_from zeros begun)

-- the target asks for a byte and takes it
abbrev pub asking : List (List ℕ)
asking = records (0xA0000006 ∷ 0xA0000004 ∷ [])

unfoldable pub latest : List HostCall
latest = calls_from zeros (begun ++ asking)

-- and again, but on the image that was saved
unfoldable pub again : List HostCall
again = calls_from saved asking

unfoldable pub older : List HostCall
older = latest ++ again

-- each call is as the contract says
chain_made : (image : List ℕ) (ks : List HostCall) → ImageChain image ks → AllMade ks
chain_made image [] h = tt
chain_made image (k ∷ more) h = (h.1.0, chain_made k.left more h.1.1)

made_append : (a b : List HostCall) → AllMade a → AllMade b → AllMade (a ++ b)
made_append [] b h q = q
made_append (k ∷ a) b h q = (h.0, made_append a b h.1 q)

pub older_made : AllMade older
unfolding latest again older
older_made =
    made_append latest again (chain_made zeros latest (calls_chain zeros (begun ++ asking)))
    (chain_made saved again (calls_chain saved asking))

-- but they fall into two chains, and are none
pub older_falls : chains_of older ≡ latest ∷ again ∷ []
unfolding calls saved latest again older
older_falls = refl

pub no_chain : (image : List ℕ) → ImageChain image older → ⊥
unfolding latest older
no_chain image h =
    let e : ◌≡◌ {A = ℕ} 2 1 = ap length (sym older_falls ∙ chain_is_one image older h) in
    omega arith

-- of each of the two demand 3 is claimed
pub each_claimed : Claimed (latest ∷ again ∷ [])
each_claimed = rw older_falls at (demand_three_of_host_calls older older_made)

pub latest_claimed : DemandThree (state_at zeros) (exchanges_over latest)
unfolding latest
latest_claimed = demand_three_of_images zeros latest zeros_bytes zeros_accepted (calls_chain zeros (begun ++ asking))

-- in the first of them one byte is taken
pub latest_takes : over taken_of (exchanges_over latest) ≡ 0x41 ∷ []
unfolding calls saved latest
latest_takes = refl

-- OF ALL TOGETHER IT WOULD BE FALSE: the driver kept every rule, and the target took 41h twice
abbrev set_up : List Exchange
set_up = take 2 (exchanges_over older)

abbrev run : List Exchange
run = drop 2 (exchanges_over older)

abbrev word : List ℕ
word = 0x41 ∷ 0x42 ∷ []

older_starts : Starts true (state_after (state_at zeros) set_up)
unfolding calls saved latest again older
older_starts =
    record {
      host = refl;
      scsi = refl;
      counter = refl;
      offset = refl;
      acko = refl;
      opened = refl;
      direction = refl;
      enselo = refl;
      enseli = refl;
      enrseli = refl;
      idle = refl;
    }

older_drives : DrivesBlind word [] run
unfolding calls saved latest again older
older_drives =
    record { rules = tt; clear = tt; goes = record { run = refl; offers = (refl, (refl, (refl, (refl, (refl, tt))))) } }

older_takes : taken_so_far [] run ≡ 0x41 ∷ 0x41 ∷ []
unfolding calls saved latest again older
older_takes = refl

older_parts : exchanges_over older ≡ set_up ++ (run ++ [])
unfolding latest again older
older_parts = refl

pub claim_false : DemandThree (state_at zeros) (exchanges_over older) → ⊥
claim_false d =
    let b = d.blind set_up [] word [] run older_parts older_starts older_drives in
    let e : ◌≡◌ {A = List ℕ} (0x41 ∷ 0x41 ∷ []) word = sym older_takes ∙ b ∙ ap (λ (l : List ℕ). take (length l) word) older_takes in
    let n : ◌≡◌ {A = ℕ} 0x41 0x42 = ap (λ (l : List ℕ). get_or l 1 0) e in
    omega arith

-- A RUN of the same five records in one slice
unfoldable pub five_run : ImageRun
five_run = image_run zeros (joined (begun ++ asking)) (replicate 80 0)

pub five_run_lem : IsImageRun zeros (joined (begun ++ asking)) (replicate 80 0) five_run.image five_run.buffer five_run.count
unfolding five_run
five_run_lem = record { image = refl; buffer = refl; count = refl }

pub five_claimed : DemandThree (state_at zeros) (exchanges_in 5 (joined (begun ++ asking)) five_run.buffer)
five_claimed =
    demand_three_of_host zeros (joined (begun ++ asking)) (replicate 80 0) five_run.image five_run.buffer five_run.count
    zeros_bytes zeros_accepted five_run_lem

-- it leaves the image that the single calls leave
pub five_takes : over taken_of (exchanges_in 5 (joined (begun ++ asking)) five_run.buffer) ≡ 0x41 ∷ []
unfolding calls five_run
five_takes = refl

pub five_leaves : five_run.image ≡ last_image zeros latest
unfolding calls latest five_run
five_leaves = same_true five_run.image (last_image zeros latest) refl
