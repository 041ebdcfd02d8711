-- The keys of a table are those of the members that it stands for.
use Rattle.std.proofs.Common.{◌≡◌, List, [], ◌∷◌, String, Global, string_bytes, ◌&&◌, refl, ap}
use Rattle.std.specs.List.{list_all}
use Rattle.std.specs.Map.{keys_of}
use Rattle.toml.specs.declared.value.Value.{Value}
use Rattle.toml.specs.View.{members_view}
use Rattle.act1_devread.specs.Rules.{is_known, has_only_known}

pub knows_members : (es : List (String Global × Value)) → list_all (λ k. is_known (string_bytes k)) (keys_of es) ≡ has_only_known (members_view es)
knows_members [] = refl
knows_members (e ∷ es) = ap (λ b. is_known (string_bytes e.0) && b) (knows_members es)
