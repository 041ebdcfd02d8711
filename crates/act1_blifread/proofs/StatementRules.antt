-- The parts of what statements keep.
use Rattle.std.proofs.Common.{◌≡◌, ◌≤◌, ◌&&◌, Bool, true, false, length, refl, arith}
use Rattle.std.specs.Prelude.{nat_le}
use Rattle.std.specs.List.{list_all}
use Rattle.std.proofs.lemmas.Bool.{false≢true}
use Rattle.std.proofs.lemmas.Bool.Decides.{nat_tests}
use Rattle.act1_base.specs.Names.{is_name, are_different}
use Rattle.act1_bliftext.specs.Rules.{is_model}
use Rattle.act1_bliftext.specs.declared.statements.Statements.{Statements}
use Rattle.act1_blifread.specs.NetlistSteps.{are_within}

five : (a b c d e : Bool) → (a && b && c && d && e) ≡ true → (a ≡ true) × (b ≡ true) × (c ≡ true) × (d ≡ true) × (e ≡ true)
five true true true true true h = (refl, refl, refl, refl, refl)
five true true true true false h = absurd (false≢true h)
five true true true false e h = absurd (false≢true h)
five true true false d e h = absurd (false≢true h)
five true false c d e h = absurd (false≢true h)
five false b c d e h = absurd (false≢true h)

pub record AreKept (s : Statements) : Type 0 where
  pub model : is_model s.model ≡ true
  pub named : list_all is_name s.names ≡ true
  pub apart : are_different s.names ≡ true
  pub few : length s.names ≤ 65535
  pub within : are_within (length s.names) s.statements ≡ true

pub kept : (s : Statements) → AreKept s
kept s =
    let p = five (is_model s.model) (list_all is_name s.names) (are_different s.names) (nat_le (length s.names) 65535) (are_within (length s.names) s.statements) s.valid in
    let few = p.3 in
    record { model = p.0; named = p.1; apart = p.2; few = grind (arith, nat_tests); within = p.4 }
