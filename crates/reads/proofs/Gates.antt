-- Conjunctions and disjunctions by the part that is looked at first, as the tests found the parts.
use mathlib.Core.Path.{◌≡◌, refl, sym, ap, ap₂, ◌∙◌}
use mathlib.Core.Bool.{Bool, true, false, ◌&&◌, ◌||◌, and-true, and-false, true≢false}

pub where_on : {x a t b : Bool} → x ≡ a → t ≡ b → t ≡ true → x ≡ (a && b)
where_on {x} {a} {t} {b} e f h = e ∙ sym (ap (◌&&◌ a) (sym f ∙ h) ∙ and-true a)

pub where_off : (a : Bool) {t b : Bool} → t ≡ b → t ≡ false → false ≡ (a && b)
where_off a f h = sym (ap (◌&&◌ a) (sym f ∙ h) ∙ and-false a)

-- one of the outer parts holds, or neither
one_holds : (a b c : Bool) → (a || c) ≡ true → true ≡ (a || b || c)
one_holds true b c h = refl
one_holds false true c h = refl
one_holds false false c h = sym h

neither_holds : {x : Bool} (a b c : Bool) → (a || c) ≡ false → x ≡ b → x ≡ (a || b || c)
neither_holds true b c h e = absurd (true≢false h)
neither_holds false true c h e = e
neither_holds false false c h e = e ∙ sym h

pub at_once : {k a l c : Bool} (b : Bool) → k ≡ a → l ≡ c → (k || l) ≡ true → true ≡ (a || b || c)
at_once {k} {a} {l} {c} b e f h = one_holds a b c (sym (ap₂ ◌||◌ e f) ∙ h)

pub not_at_once : {x b k a l c : Bool} → k ≡ a → l ≡ c → (k || l) ≡ false → x ≡ b → x ≡ (a || b || c)
not_at_once {x} {b} {k} {a} {l} {c} e f h = neither_holds a b c (sym (ap₂ ◌||◌ e f) ∙ h)
