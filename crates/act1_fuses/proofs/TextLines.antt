-- The text of a file's lists of lines.
use Rattle.std.proofs.Common.{ℕ, ◌≡◌, List, ◌++◌, refl, append_assoc}
use Rattle.std.proofs.lemmas.List.Concat.{flat_map-append}
use Rattle.act1_base.specs.Words.{text_of_lines}

-- the text of six lists of lines is the text of each, one after the other
pub text_of_parts : (a b c d e f : List (List (List ℕ)))
    → text_of_lines (a ++ b ++ c ++ d ++ e ++ f)
    ≡ text_of_lines a ++ (text_of_lines b ++ (text_of_lines c ++ (text_of_lines d ++ (text_of_lines e ++ text_of_lines f))))
text_of_parts a b c d e f = simp (flat_map-append, append_assoc) refl
