-- Endings that write no file.
use Rattle.std.specs.Prelude.{ℕ, List, None}
use Rattle.act1_base.specs.Words.{text_line}
use Rattle.act1_frame.specs.declared.ending.Ending.{Ending}

-- the text is printed, and the status answered
abbrev pub with_text : ℕ → List ℕ → Ending
with_text status text = record { status = status; text = text; file = None }

-- the command is done, and the text is printed
abbrev pub printed : List ℕ → Ending
printed text = with_text 0 text

-- the line of some words is printed
abbrev pub refusal : ℕ → List (List ℕ) → Ending
refusal status words = with_text status (text_line words)
