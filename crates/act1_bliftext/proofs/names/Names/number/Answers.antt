use Rattle.std.proofs.Common.{ℕ, List, length, ◌≡◌, ◌≤◌, Some, refl, subst}
use Rattle.std.specs.Prelude.{slice_get}
use Rattle.act1_bliftext.specs.Tables.{with_name}
use Rattle.act1_bliftext.proofs.Numbering.{name_found}
use Rattle.act1_bliftext.proofs.names.Names.number.Goals as goal

pub returns-in-Some : goal.returns-in-Some
returns-in-Some c =
    subst (λ (names : List (List ℕ)). (names ≡ with_name names c.args.word.now) × (slice_get names c.in-Some.number ≡ Some c.args.word.now) × (length names ≤ 65535)) c.self.view_is
    (name_found c.self.inside.set.keys c.args.word.now c.args.word.now c.in-Some.number refl c.in-Some.ensures.index c.in-Some.ensures.found c.self.invariant)
