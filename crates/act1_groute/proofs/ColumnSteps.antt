-- The least and the greatest column, one line more.
use Rattle.std.proofs.Common.{ℕ, ◌≡◌, ◌+◌, ◌<◌, min, max, List, [], ◌∷◌, map, drop, get_or, length, refl, sym, ap, ◌∙◌, arith}
use Rattle.std.proofs.lemmas.List.{drop_more}
use Rattle.act1_device.specs.declared.device.Device.{Device}
use Rattle.act1_device.specs.declared.device.Line.{Line}
use Rattle.act1_device.specs.Sites.{column_of}
use Rattle.act1_base.specs.Lists.{least_number, greatest_number}

least_twice : (n : ℕ) (ns : List ℕ) → least_number (n ∷ n ∷ ns) ≡ least_number (n ∷ ns)
least_twice n [] = omega arith
least_twice n (m ∷ ns) = omega arith

least_step : (a b : ℕ) (ns : List ℕ) → least_number (a ∷ b ∷ ns) ≡ least_number (min a b ∷ ns)
least_step a b [] = refl
least_step a b (m ∷ ns) = omega arith

pub least_first : (dev : Device) (lines : List Line) (l d : Line) (least : ℕ) → 0 < length lines → l ≡ get_or lines 0 d → least ≡ column_of dev l → least_number (least ∷ map (column_of dev) lines) ≡ least_number (map (column_of dev) lines)
least_first dev [] l d least some is e = absurd (omega arith)
least_first dev (x ∷ lines) l d least some is e = ap (λ (n : ℕ). least_number (n ∷ column_of dev x ∷ map (column_of dev) lines)) (e ∙ ap (column_of dev) is) ∙ least_twice (column_of dev x) (map (column_of dev) lines)

pub least_next : (dev : Device) (lines : List Line) (i : ℕ) (l d : Line) (least column : ℕ) → i < length lines → l ≡ get_or lines i d → column ≡ column_of dev l
    → least_number (min least column ∷ map (column_of dev) (drop (i + 1) lines)) ≡ least_number (least ∷ map (column_of dev) (drop i lines))
least_next dev lines i l d least column low is e =
    sym (ap (λ (ls : List Line). least_number (least ∷ map (column_of dev) ls)) (drop_more lines i d low)
    ∙ ap (λ (n : ℕ). least_number (least ∷ n ∷ map (column_of dev) (drop (i + 1) lines))) (sym (e ∙ ap (column_of dev) is))
    ∙ least_step least column (map (column_of dev) (drop (i + 1) lines)))

pub greatest_next : (dev : Device) (lines : List Line) (i : ℕ) (l d : Line) (greatest column : ℕ) → i < length lines → l ≡ get_or lines i d → column ≡ column_of dev l
    → max (max greatest column) (greatest_number (map (column_of dev) (drop (i + 1) lines))) ≡ max greatest (greatest_number (map (column_of dev) (drop i lines)))
greatest_next dev lines i l d greatest column low is e =
    let here : greatest_number (map (column_of dev) (drop i lines)) ≡ max column (greatest_number (map (column_of dev) (drop (i + 1) lines))) =
    ap (λ (ls : List Line). greatest_number (map (column_of dev) ls)) (drop_more lines i d low) ∙ ap (λ (n : ℕ). max n (greatest_number (map (column_of dev) (drop (i + 1) lines)))) (sym (e ∙ ap (column_of dev) is)) in
    omega (arith, here)
