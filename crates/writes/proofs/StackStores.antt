-- The stack in an image: a byte at its place, the pointer in its own.
use Prim.Native.Nat.{ℕ, ◌+◌, ◌%◌, ◌<◌}
use mathlib.Core.Path.{◌≡◌, refl, ap, ◌∙◌}
use mathlib.Core.Bool.{Bool}
use mathlib.Core.List.{List, [], ◌∷◌, ◌++◌}
use native.Mathlib.Omega.{arith}
use native.Mathlib.Nat.{zero-add, suc-add}
use lib.ListN.{length, set, get_or, length-append}
use lib.Seq.{set-append_left}
use Rattle.rules.specs.Numbers.{padded}
use Rattle.rules.specs.Stack.{stack_size, stack_place, pointer_after, stack_read, stack_written, pointed}
use Rattle.rules.specs.State.{State}
use Rattle.rules.specs.Ranges.{InRange}
use Rattle.rules.specs.declared.chip.Stack.{Stack}
use Rattle.laws.proofs.Lists.{padded_length}
use Rattle.stack.proofs.Places.{place_lt}
use Rattle.rules.specs.Changed.{with_stack}
use Rattle.image.specs.Image.{IsImage, image_of, head_of, state_at}
use Rattle.image.specs.Layout.{pointer_place, scsi_bytes_place, stack_bytes_place}
use Rattle.image.proofs.AtPlaces.{wide_at}

-- a store past the first part
set_append_add : (xs ys : List ℕ) (n a : ℕ) → set (xs ++ ys) (length xs + n) a ≡ xs ++ set ys n a
set_append_add [] ys n a = ap (λ (k : ℕ). set ys k a) (zero-add n)
set_append_add (x ∷ xs) ys n a = ap (λ (k : ℕ). set (x ∷ (xs ++ ys)) k a) (suc-add (length xs) n) ∙ ap (λ (r : List ℕ). x ∷ r) (set_append_add xs ys n a)

-- a store in the middle part of three
set_middle : (p b t : List ℕ) (k i a : ℕ) → k ≡ length p + i → i < length b → set ((p ++ b) ++ t) k a ≡ (p ++ set b i a) ++ t
set_middle p b t k i a e lt =
    let l : length (p ++ b) ≡ length p + length b = length-append p b in
    let below : k < length (p ++ b) = omega (arith, l, e, lt) in
    set-append_left (p ++ b) t k a below
    ∙ ap (λ (r : List ℕ). r ++ t) (ap (λ (x : ℕ). set (p ++ b) x a) e ∙ set_append_add p b i a)

-- the stack comes after the 28 bytes and the SCSI FIFO
before_stack : (h q : List ℕ) → length h ≡ scsi_bytes_place → length q ≡ 8 → (i : ℕ) → stack_bytes_place + i ≡ length (h ++ q) + i
before_stack h q e f i = omega (arith, length-append h q, e, f)

abbrev pub stack_of : List ℕ → ℕ → Stack
stack_of b p = record { bytes = b; pointer = p }

byte_image : (s : State) → InRange s → (i a : ℕ) → i < 32 → set (image_of s) (stack_bytes_place + i) a ≡ image_of (with_stack (stack_of (set s.stack.bytes i a) s.stack.pointer) s)
unfolding image_of
byte_image s r i a lt =
    let q = padded 8 s.transfer.scsi in
    let n : length q ≡ 8 = padded_length 8 s.transfer.scsi r.transfer.scsi in
    let z : length s.stack.bytes ≡ 32 = r.stack.size in
    let f : i < length s.stack.bytes = omega (arith, z, lt) in
    set_middle (head_of s ++ q) s.stack.bytes (padded 128 s.transfer.host) (stack_bytes_place + i) i a (before_stack (head_of s) q refl n i) f

pointer_image : (p : ℕ) (s : State) → set (image_of s) pointer_place p ≡ image_of (with_stack (stack_of s.stack.bytes p) s)
unfolding image_of
pointer_image p s = refl

both_image : (s : State) → InRange s → (i a p : ℕ) → i < 32 → set (set (image_of s) (stack_bytes_place + i) a) pointer_place p ≡ image_of (with_stack (stack_of (set s.stack.bytes i a) p) s)
both_image s r i a p lt =
    ap (λ (m : List ℕ). set m pointer_place p) (byte_image s r i a lt)
    ∙ pointer_image p (with_stack (stack_of (set s.stack.bytes i a) s.stack.pointer) s)

-- the pointer as an image has it
abbrev pub pointer_at : List ℕ → ℕ
pointer_at m = get_or m pointer_place 0

abbrev pub place_of : Bool → ℕ → ℕ
place_of w p = p % stack_size w

abbrev pub next_of : Bool → ℕ → ℕ
next_of w p = (p % stack_size w + 1) % stack_size w

place_at : (m : List ℕ) → place_of (wide_at m) (pointer_at m) ≡ stack_place (wide_at m) (state_at m).stack
unfolding state_at stack_place
place_at m = refl

next_at : (m : List ℕ) → next_of (wide_at m) (pointer_at m) ≡ pointer_after (wide_at m) (state_at m).stack
unfolding state_at stack_place pointer_after
next_at m = refl

-- the array after a write and a read of 35Dh, and after a write of 353h; b is ENSTK32 as the code read it
pub pushed_image : (v : ℕ) (m : List ℕ) → IsImage m → {b : Bool} → b ≡ wide_at m → set (set m (stack_bytes_place + place_of b (pointer_at m)) v) pointer_place (next_of b (pointer_at m)) ≡ image_of (with_stack (stack_written (wide_at m) v (state_at m).stack) (state_at m))
unfolding stack_written
pushed_image v m i e =
    let w = wide_at m in
    let k = (state_at m).stack in
    ap (λ (b : Bool). set (set m (stack_bytes_place + place_of b (pointer_at m)) v) pointer_place (next_of b (pointer_at m))) e
    ∙ ap (λ (x : ℕ). set (set m (stack_bytes_place + x) v) pointer_place (next_of (wide_at m) (pointer_at m))) (place_at m)
    ∙ ap (λ (x : ℕ). set (set m (stack_bytes_place + stack_place w k) v) pointer_place x) (next_at m)
    ∙ ap (λ (x : List ℕ). set (set x (stack_bytes_place + stack_place w k) v) pointer_place (pointer_after w k)) i.packed
    ∙ both_image (state_at m) i.range (stack_place w k) v (pointer_after w k) (place_lt w k)

pub popped_image : (m : List ℕ) → IsImage m → {b : Bool} → b ≡ wide_at m → set m pointer_place (next_of b (pointer_at m)) ≡ image_of (with_stack (stack_read (wide_at m) (state_at m).stack) (state_at m))
unfolding stack_read
popped_image m i e =
    let p = pointer_after (wide_at m) (state_at m).stack in
    ap (λ (b : Bool). set m pointer_place (next_of b (pointer_at m))) e
    ∙ ap (λ (x : ℕ). set m pointer_place x) (next_at m)
    ∙ ap (λ (x : List ℕ). set x pointer_place p) i.packed
    ∙ pointer_image p (state_at m)

pub pointed_image : (v : ℕ) (m : List ℕ) → IsImage m → set m pointer_place (v % 32) ≡ image_of (with_stack (pointed v (state_at m).stack) (state_at m))
unfolding pointed
pointed_image v m i = ap (λ (x : List ℕ). set x pointer_place (v % 32)) i.packed ∙ pointer_image (v % 32) (state_at m)
