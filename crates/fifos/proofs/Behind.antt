-- Bytes sent behind others, one by one.
use Prim.Native.Nat.{ℕ}
use mathlib.Core.Path.{◌≡◌, ap, sym, ◌∙◌}
use mathlib.Core.List.{List}
use Rattle.laws.proofs.Lists.{padded_take}
use Rattle.fifos.specs.Fifos.{sent_of, sent_view, SentTidy}
use Rattle.rules.specs.declared.chip.Fifo.{Fifo}

-- the one form is tidy, and holds its bytes
pub view_of : (l : List ℕ) → sent_view (sent_of l) ≡ l
view_of l = padded_take 8 l

pub tidy_of : (l : List ℕ) {s : Fifo 8} → s ≡ sent_of l → SentTidy s
tidy_of l e = e ∙ ap sent_of (sym (view_of l)) ∙ ap (λ (x : Fifo 8). sent_of (sent_view x)) (sym e)
