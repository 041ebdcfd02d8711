use Rattle.std.proofs.Common.{◌≡◌, ◌≤◌, ◌∙◌, ◌-◌, List, [], ◌∷◌, ℕ, length, drop, true, refl, sym, arith, length-drop}
use Rattle.act1_base.specs.Rising.{is_rising}
use Rattle.act1_devread.proofs.tracks.is_rising.Goals as goal

-- a list of one element at most rises
short : (xs : List ℕ) → length xs ≤ 1 → is_rising xs ≡ true
short [] h = refl
short (x ∷ []) h = refl
short (x ∷ y ∷ xs) h = absurd (omega arith)

pub returns : goal.returns
returns c =
    let rest = drop (c.loop-i.i - 1) c.args.breaks.now in
    let at_end : length rest ≤ 1 = omega (arith, length-drop (c.loop-i.i - 1) c.args.breaks.now) in
    sym (short rest at_end) ∙ c.loop-i.invariant
