-- Calls of host::rabenteig_step, and the chains that they fall into. R-5: "For demand 3 handing in any image but the chip's latest ends
-- the run and the chain of rounds it falls in; a new chain starts under document 01's conditions."
use Rattle.std.specs.Prelude.{ℕ, ◌≡◌, Bool, true, false, List, [], ◌∷◌, ◌++◌}
use Rattle.rules.specs.Ranges.{Bytes}
use Rattle.image.specs.Image.{state_at}
use Rattle.saved.specs.Accepted.{same_bytes, accepted}
use Rattle.host.specs.ImageCalls.{IsImageCall}
use Rattle.driver.specs.Exchanges.{Exchange}
use Rattle.driver.specs.DemandThree.{DemandThree}

-- a call: the image handed in, the record, the lent buffer before it; the image left, the buffer after it, and the code returned
pub record HostCall : Type 0 where
  pub image : List ℕ
  pub bytes : List ℕ
  pub before : List ℕ
  pub left : List ℕ
  pub buffer : List ℕ
  pub code : ℕ

-- it is as the contract says
abbrev pub IsMade : HostCall → Type 0
IsMade k = IsImageCall k.image k.bytes k.before k.left k.buffer k.code

-- A CHAIN OF IMAGE CALLS: each is handed the image that the last one left, the first of them this one; any records, any buffers
abbrev pub ImageChain : List ℕ → List HostCall → Type 0
ImageChain image [] = Unit {0}
ImageChain image (k ∷ more) = (k.image ≡ image) × (IsMade k × ImageChain k.left more)

abbrev pub last_image : List ℕ → List HostCall → List ℕ
last_image image [] = image
last_image image (k ∷ more) = last_image k.left more

abbrev pub exchange_over : HostCall → Exchange
exchange_over k = record { bytes = k.bytes; buffer = k.buffer }

abbrev pub exchanges_over : List HostCall → List Exchange
exchanges_over [] = []
exchanges_over (k ∷ more) = exchange_over k ∷ exchanges_over more

-- ANY CALLS, each on whatever image
abbrev pub AllMade : List HostCall → Type 0
AllMade [] = Unit {0}
AllMade (k ∷ more) = IsMade k × AllMade more

-- THEY FALL INTO CHAINS at each call that is handed another image than the last one left
abbrev pub is_latest : HostCall → List HostCall → Bool
is_latest k [] = false
is_latest k (next ∷ more) = same_bytes next.image k.left

-- a call before the chains behind it: the first of the next chain, or a chain by itself
abbrev pub put : Bool → HostCall → List (List HostCall) → List (List HostCall)
put true k (chain ∷ more) = (k ∷ chain) ∷ more
put true k [] = (k ∷ []) ∷ []
put false k chains = (k ∷ []) ∷ chains

abbrev pub chains_of : List HostCall → List (List HostCall)
chains_of [] = []
chains_of (k ∷ more) = put (is_latest k more) k (chains_of more)

-- a chain from the image that its first call is handed
abbrev pub IsChain : List HostCall → Type 0
IsChain [] = Unit {0}
IsChain (k ∷ more) = ImageChain k.image (k ∷ more)

abbrev pub AllChains : List (List HostCall) → Type 0
AllChains [] = Unit {0}
AllChains (chain ∷ more) = IsChain chain × AllChains more

abbrev pub all_calls : List (List HostCall) → List HostCall
all_calls [] = []
all_calls (chain ∷ more) = chain ++ all_calls more

-- WHAT IS CLAIMED OF ANY CALLS: demand 3 of each chain from an accepted image, where every run and every round needs its start anew
-- (`Starts`); of two chains together nothing
abbrev pub Claimed : List (List HostCall) → Type 0
Claimed [] = Unit {0}
Claimed ([] ∷ more) = Claimed more
Claimed ((k ∷ chain) ∷ more) =
    (Bytes k.image → accepted k.image ≡ true → DemandThree (state_at k.image) (exchanges_over (k ∷ chain))) × Claimed more
