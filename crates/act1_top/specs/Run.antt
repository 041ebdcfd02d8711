-- The commands, each with the files that it reads and writes, how it may end and what its status 0 says. A new command is a line in each.
use Rattle.std.specs.Prelude.{ℕ, ◌≡◌, List, [], ◌∷◌, codes}
use Rattle.act1_outside.specs.Outside.{Bench, Shelf}
use Rattle.act1_frame.specs.declared.ending.Ending.{Ending}
use Rattle.act1_frame.specs.Endings.{refusal}
use Rattle.act1_frame.specs.Reading.{Wanted}
use Rattle.act1_frame.specs.World.{World}
use Rattle.act1_words.specs.declared.command.Command.{Command}
use Rattle.act1_words.specs.declared.command.Command.TheVariants.{Unknown, Flow, Sim, Extract, Check, Search, Cover, Blif, Demo}
use Rattle.act1_top.specs.BlifCommand.{blif_reads, BlifMayEnd, BlifIsDone}
use Rattle.act1_top.specs.CheckCommand.{check_reads, CheckMayEnd, CheckIsDone}
use Rattle.act1_top.specs.CoverCommand.{cover_reads, CoverMayEnd, CoverIsDone}
use Rattle.act1_top.specs.DemoCommand.{demo_reads, demo_writes, demo_writes_at, DemoMayEnd, DemoIsDone, DemoIsVertical, DemoIsRefuted, DemoIsSpent}
use Rattle.act1_top.specs.ExtractCommand.{extract_reads, extract_writes, extract_writes_at, ExtractMayEnd, ExtractIsDone}
use Rattle.act1_top.specs.FlowCommand.{flow_reads, flow_writes, flow_writes_at, helping_in, FlowMayEnd, MayCall, FlowIsChosen, FlowIsDone, FlowIsVertical, FlowIsRefuted, FlowIsSpent}
use Rattle.act1_top.specs.SearchCommand.{search_reads, search_writes, search_writes_at, SearchMayEnd, SearchIsDone, SearchIsRefuted, SearchIsSpent}
use Rattle.act1_top.specs.SimCommand.{sim_reads, SimMayEnd, SimIsDone}
use Rattle.act1_top.specs.Sure.{FlowIsComplete}

-- the files that a command may read
abbrev pub reads_of : Command → List Wanted
reads_of Unknown = []
reads_of (Flow words) = flow_reads words
reads_of (Sim words) = sim_reads words
reads_of (Extract words) = extract_reads words
reads_of (Check words) = check_reads words
reads_of (Search words) = search_reads words
reads_of (Cover words) = cover_reads words
reads_of (Blif words) = blif_reads words
reads_of (Demo words) = demo_reads words

-- the files that a command may write
abbrev pub writes_of : Command → List (List ℕ)
writes_of Unknown = []
writes_of (Flow words) = flow_writes words
writes_of (Sim words) = []
writes_of (Extract words) = extract_writes words
writes_of (Check words) = []
writes_of (Search words) = search_writes words
writes_of (Cover words) = []
writes_of (Blif words) = []
writes_of (Demo words) = demo_writes words

-- those that it writes at a status
abbrev pub writes_at : Command → ℕ → List (List ℕ)
writes_at Unknown status = []
writes_at (Flow words) status = flow_writes_at words status
writes_at (Sim words) status = []
writes_at (Extract words) status = extract_writes_at words status
writes_at (Check words) status = []
writes_at (Search words) status = search_writes_at words status
writes_at (Cover words) status = []
writes_at (Blif words) status = []
writes_at (Demo words) status = demo_writes_at words status

-- words that are no command
abbrev pub usage_ending : Ending
usage_ending = refusal 1 (codes "usage: act1 flow|sim|extract|check|search|cover|blif|demo" ∷ [])

-- the command may end so, where this is seen of the helpers before and after
abbrev pub MayEnd : Command → Bench → Bench → Shelf → Shelf → Ending → Type 0
MayEnd Unknown bench left before after e = e ≡ usage_ending
MayEnd (Flow words) bench left before after e = FlowMayEnd words (helping_in words bench left) before after e
MayEnd (Sim words) bench left before after e = SimMayEnd words before after e
MayEnd (Extract words) bench left before after e = ExtractMayEnd words before after e
MayEnd (Check words) bench left before after e = CheckMayEnd words before after e
MayEnd (Search words) bench left before after e = SearchMayEnd words before after e
MayEnd (Cover words) bench left before after e = CoverMayEnd words before after e
MayEnd (Blif words) bench left before after e = BlifMayEnd words before after e
MayEnd (Demo words) bench left before after e = DemoMayEnd words before after e

-- the endings between which a command may choose: the circuit that a netlist is mapped to is free, and what comes of it follows from that
abbrev pub chosen_of : Command → Ending → Type 0
chosen_of Unknown e = ⊥
chosen_of (Flow words) e = FlowIsChosen e
chosen_of (Sim words) e = ⊥
chosen_of (Extract words) e = ⊥
chosen_of (Check words) e = ⊥
chosen_of (Search words) e = ⊥
chosen_of (Cover words) e = ⊥
chosen_of (Blif words) e = ⊥
chosen_of (Demo words) e = FlowIsChosen e

-- what status 0 says of a command
abbrev pub IsDone : Command → World → World → Type 0
IsDone Unknown before after = ⊥
IsDone (Flow words) before after = FlowIsDone words before after
IsDone (Sim words) before after = SimIsDone words before after
IsDone (Extract words) before after = ExtractIsDone words before after
IsDone (Check words) before after = CheckIsDone words before after
IsDone (Search words) before after = SearchIsDone words before after
IsDone (Cover words) before after = CoverIsDone words before after
IsDone (Blif words) before after = BlifIsDone words before after
IsDone (Demo words) before after = DemoIsDone words before after

-- what status 9 says of a command, which `flow` and `demo` alone answer
abbrev pub IsVertical : Command → World → World → Type 0
IsVertical Unknown before after = ⊥
IsVertical (Flow words) before after = FlowIsVertical words before after
IsVertical (Sim words) before after = ⊥
IsVertical (Extract words) before after = ⊥
IsVertical (Check words) before after = ⊥
IsVertical (Search words) before after = ⊥
IsVertical (Cover words) before after = ⊥
IsVertical (Blif words) before after = ⊥
IsVertical (Demo words) before after = DemoIsVertical words before after

-- what status 10 says of a command
abbrev pub IsRefuted : Command → World → World → Type 0
IsRefuted Unknown before after = ⊥
IsRefuted (Flow words) before after = FlowIsRefuted words before after
IsRefuted (Sim words) before after = ⊥
IsRefuted (Extract words) before after = ⊥
IsRefuted (Check words) before after = ⊥
IsRefuted (Search words) before after = SearchIsRefuted words before after
IsRefuted (Cover words) before after = ⊥
IsRefuted (Blif words) before after = ⊥
IsRefuted (Demo words) before after = DemoIsRefuted words before after

-- what status 11 says of a command
abbrev pub IsSpent : Command → World → World → Type 0
IsSpent Unknown before after = ⊥
IsSpent (Flow words) before after = FlowIsSpent words before after
IsSpent (Sim words) before after = ⊥
IsSpent (Extract words) before after = ⊥
IsSpent (Check words) before after = ⊥
IsSpent (Search words) before after = SearchIsSpent words before after
IsSpent (Cover words) before after = ⊥
IsSpent (Blif words) before after = ⊥
IsSpent (Demo words) before after = DemoIsSpent words before after

-- what is sure of a command whose files are accepted, beside that it ends as it may
abbrev pub IsSure : Command → World → ℕ → World → Type 0
IsSure Unknown before result after = Unit {0}
IsSure (Flow words) before result after = FlowIsComplete words before result after
IsSure (Sim words) before result after = Unit {0}
IsSure (Extract words) before result after = Unit {0}
IsSure (Check words) before result after = Unit {0}
IsSure (Search words) before result after = Unit {0}
IsSure (Cover words) before result after = Unit {0}
IsSure (Blif words) before result after = Unit {0}
IsSure (Demo words) before result after = Unit {0}

-- what is seen of the helpers afterwards, which `flow` alone calls
abbrev pub HelpersAre : Command → Shelf → Bench → Bench → Type 0
HelpersAre Unknown shelf before after = after ≡ before
HelpersAre (Flow words) shelf before after = MayCall words shelf before after
HelpersAre (Sim words) shelf before after = after ≡ before
HelpersAre (Extract words) shelf before after = after ≡ before
HelpersAre (Check words) shelf before after = after ≡ before
HelpersAre (Search words) shelf before after = after ≡ before
HelpersAre (Cover words) shelf before after = after ≡ before
HelpersAre (Blif words) shelf before after = after ≡ before
HelpersAre (Demo words) shelf before after = after ≡ before
