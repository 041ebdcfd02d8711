-- What the words of the command line ask for. The first word names the command, and all of them are then words of one simple command of `clap`.
use Rattle.std.specs.Prelude.{◌≤◌, Bool, ◌==◌, ◌&&◌, nat_lt, if◌then◌else◌, List, [], ◌∷◌, length, codes, Option, Some, None}
use Rattle.std.specs.Str.{bytes_eq}
use Rattle.clap.specs.Words.{App, Rule, Text, with_rule}
use Rattle.act1_words.specs.Given.{Given, count_rule, file_rule, number_at, number_rule, plain_app, taken, text_at, text_rule}
use Rattle.act1_words.specs.declared.command.BlifWords.{BlifWords}
use Rattle.act1_words.specs.declared.command.CheckWords.{CheckWords}
use Rattle.act1_words.specs.declared.command.CoverWords.{CoverWords}
use Rattle.act1_words.specs.declared.command.Command.{Command}
use Rattle.act1_words.specs.declared.command.Command.TheVariants.{Unknown, Flow, Sim, Extract, Check, Search, Cover, Blif, Demo}
use Rattle.act1_words.specs.declared.command.DemoWords.{DemoWords}
use Rattle.act1_words.specs.declared.command.ExtractWords.{ExtractWords}
use Rattle.act1_words.specs.declared.command.FlowWords.{FlowWords}
use Rattle.act1_words.specs.declared.command.SearchWords.{SearchWords}
use Rattle.act1_words.specs.declared.command.SimWords.{SimWords}

-- a command with these arguments more
abbrev pub with_rules : App → List Rule → App
with_rules app [] = app
with_rules app (rule ∷ rules) = with_rules (with_rule app rule) rules

-- `flow DEVICE BLIF FUSES REPORT [--k N] [--budget N] [--seed N] [--jobs N] [--with PROGRAM]`
unfoldable pub flow_app : App
flow_app = with_rules (plain_app (codes "flow")) (
    file_rule (codes "DEVICE") ∷ file_rule (codes "BLIF") ∷ file_rule (codes "FUSES") ∷ file_rule (codes "REPORT")
    ∷ number_rule (codes "k") 1 64 (codes "3") ∷ number_rule (codes "budget") 1 1000000000000 (codes "100000")
    ∷ number_rule (codes "seed") 0 18446744073709551615 (codes "0") ∷ number_rule (codes "jobs") 0 64 (codes "0") ∷ text_rule (codes "with") ∷ [])

-- `sim DEVICE FUSES VECTORS [--fill N]`
unfoldable pub sim_app : App
sim_app = with_rules (plain_app (codes "sim")) (file_rule (codes "DEVICE") ∷ file_rule (codes "FUSES") ∷ file_rule (codes "VECTORS") ∷ number_rule (codes "fill") 0 1 (codes "0") ∷ [])

-- `extract DEVICE FUSES BLIF`
unfoldable pub extract_app : App
extract_app = with_rules (plain_app (codes "extract")) (file_rule (codes "DEVICE") ∷ file_rule (codes "FUSES") ∷ file_rule (codes "BLIF") ∷ [])

-- `check DEVICE REPORT`
unfoldable pub check_app : App
check_app = with_rules (plain_app (codes "check")) (file_rule (codes "DEVICE") ∷ file_rule (codes "REPORT") ∷ [])

-- `search JOB ANSWER`
unfoldable pub search_app : App
search_app = with_rules (plain_app (codes "search")) (file_rule (codes "JOB") ∷ file_rule (codes "ANSWER") ∷ [])

-- `cover BLIF`
unfoldable pub cover_app : App
cover_app = with_rules (plain_app (codes "cover")) (file_rule (codes "BLIF") ∷ [])

-- `blif BLIF`
unfoldable pub blif_app : App
blif_app = with_rules (plain_app (codes "blif")) (file_rule (codes "BLIF") ∷ [])

-- `demo DEVICE N FUSES`
unfoldable pub demo_app : App
demo_app = with_rules (plain_app (codes "demo")) (file_rule (codes "DEVICE") ∷ count_rule (codes "N") 1 64 ∷ file_rule (codes "FUSES") ∷ [])

-- the words of each command, from what is given
abbrev pub flow_words : Given → FlowWords
flow_words given = record {
  device = text_at given (codes "DEVICE");
  blif = text_at given (codes "BLIF");
  fuses = text_at given (codes "FUSES");
  report = text_at given (codes "REPORT");
  k = number_at given (codes "k") 3;
  budget = number_at given (codes "budget") 100000;
  seed = number_at given (codes "seed") 0;
  jobs = number_at given (codes "jobs") 0;
  program = text_at given (codes "with");
}

abbrev pub sim_words : Given → SimWords
sim_words given = record {
  device = text_at given (codes "DEVICE");
  fuses = text_at given (codes "FUSES");
  vectors = text_at given (codes "VECTORS");
  fill = number_at given (codes "fill") 0 == 1;
}

abbrev pub extract_words : Given → ExtractWords
extract_words given = record { device = text_at given (codes "DEVICE"); fuses = text_at given (codes "FUSES"); blif = text_at given (codes "BLIF") }

abbrev pub check_words : Given → CheckWords
check_words given = record { device = text_at given (codes "DEVICE"); report = text_at given (codes "REPORT") }

abbrev pub search_words : Given → SearchWords
search_words given = record { job = text_at given (codes "JOB"); answer = text_at given (codes "ANSWER") }

abbrev pub cover_words : Given → CoverWords
cover_words given = record { blif = text_at given (codes "BLIF") }

abbrev pub blif_words : Given → BlifWords
blif_words given = record { blif = text_at given (codes "BLIF") }

abbrev pub demo_words : Given → DemoWords
demo_words given = record { device = text_at given (codes "DEVICE"); bits = number_at given (codes "N") 1; fuses = text_at given (codes "FUSES") }

-- helpers are asked for, and no program is named
abbrev pub lacks_program : FlowWords → Bool
lacks_program words = nat_lt 0 words.jobs && length words.program == 0

-- the command, where its words are taken
abbrev pub flow_asked : Option FlowWords → Command
flow_asked None = Unknown
flow_asked (Some words) = if lacks_program words then Unknown else Flow words

abbrev pub sim_asked : Option SimWords → Command
sim_asked None = Unknown
sim_asked (Some words) = Sim words

abbrev pub extract_asked : Option ExtractWords → Command
extract_asked None = Unknown
extract_asked (Some words) = Extract words

abbrev pub check_asked : Option CheckWords → Command
check_asked None = Unknown
check_asked (Some words) = Check words

abbrev pub search_asked : Option SearchWords → Command
search_asked None = Unknown
search_asked (Some words) = Search words

abbrev pub cover_asked : Option CoverWords → Command
cover_asked None = Unknown
cover_asked (Some words) = Cover words

abbrev pub blif_asked : Option BlifWords → Command
blif_asked None = Unknown
blif_asked (Some words) = Blif words

abbrev pub demo_asked : Option DemoWords → Command
demo_asked None = Unknown
demo_asked (Some words) = Demo words

-- the command of the first word
unfoldable pub command_of : List Text → Command
command_of [] = Unknown
command_of (word ∷ rest) =
    if bytes_eq word (codes "flow") then flow_asked (taken flow_app flow_words (word ∷ rest))
    else if bytes_eq word (codes "sim") then sim_asked (taken sim_app sim_words (word ∷ rest))
    else if bytes_eq word (codes "extract") then extract_asked (taken extract_app extract_words (word ∷ rest))
    else if bytes_eq word (codes "check") then check_asked (taken check_app check_words (word ∷ rest))
    else if bytes_eq word (codes "search") then search_asked (taken search_app search_words (word ∷ rest))
    else if bytes_eq word (codes "cover") then cover_asked (taken cover_app cover_words (word ∷ rest))
    else if bytes_eq word (codes "blif") then blif_asked (taken blif_app blif_words (word ∷ rest))
    else if bytes_eq word (codes "demo") then demo_asked (taken demo_app demo_words (word ∷ rest))
    else Unknown

-- the numbers of `flow` are in their ranges
pub record IsInRanges (words : FlowWords) : Type 0 where
  pub least_k : 1 ≤ words.k
  pub most_k : words.k ≤ 64
  pub least_budget : 1 ≤ words.budget
  pub most_budget : words.budget ≤ 1000000000000
  pub most_jobs : words.jobs ≤ 64

-- and that of `demo`
pub record IsCountInRange (words : DemoWords) : Type 0 where
  pub least : 1 ≤ words.bits
  pub most : words.bits ≤ 64

-- .. of any command
abbrev pub AreInRanges : Command → Type 0
AreInRanges Unknown = Unit {0}
AreInRanges (Flow words) = IsInRanges words
AreInRanges (Sim words) = Unit {0}
AreInRanges (Extract words) = Unit {0}
AreInRanges (Check words) = Unit {0}
AreInRanges (Search words) = Unit {0}
AreInRanges (Cover words) = Unit {0}
AreInRanges (Blif words) = Unit {0}
AreInRanges (Demo words) = IsCountInRange words
