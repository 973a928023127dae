use Prim.Native.Nat.{ℕ, ◌≤◌}
use mathlib.Core.List.{List}
use native.Mathlib.Omega.{arith}
use lib.ListN.{length, drop, length-drop}
use Rattle.rules.specs.Ranges.{Bytes}
use Rattle.rules.proofs.Ranges.{bytes_drop}
use Rattle.image.specs.Image.{IsImage, state_at}
use Rattle.settling.proofs.Carries.{host_held}
use Rattle.strings.proofs.Settled.{image_held, block_held}
use Rattle.strings.proofs.reading.block_fetched.Goals as goal

pub host_popped-requires : goal.host_popped-requires
host_popped-requires c =
    record { image = c.requires.image; k_bound = omega (arith, c.requires.n_in_bounds, host_held c.args.m.now c.requires.image) }

-- the bytes that stay
module _ {m : List ℕ} (i : IsImage m) (n : ℕ) where
  abbrev host : List ℕ
  host = (state_at m).transfer.host

  fits : length (drop n host) ≤ 128
  fits = simp length-drop (omega (arith, i.range.transfer.host))

  bytes : Bytes (drop n host)
  bytes = bytes_drop n host i.bytes.transfer.host

pub settled_in-sent-requires : goal.settled_in-sent-requires
settled_in-sent-requires c =
    let i = c.requires.image in
    let n = c.args.n in
    image_held i (drop n (host i n)) (fits i n) (bytes i n) c.host_popped.ensures

pub returns : goal.returns
returns c =
    let i = c.requires.image in
    let n = c.args.n in
    record {
      image = (block_held i (drop n (host i n)) (fits i n) (bytes i n) c.host_popped.ensures c.settled_in-sent.ensures).image;
      buffer = c.host_copied.ensures;
    }
