-- What words of the command line ask for: files, options with their defaults and ranges, and what no command takes.
use Rattle.std.proofs.Common.{◌≡◌, true, false, List, [], ◌∷◌, codes, refl}
use Rattle.clap.proofs.OnLiterals.{clap_on_literals}
use Rattle.act1_words.specs.Commands.{command_of, blif_app, demo_app, extract_app, flow_app, search_app, sim_app}
use Rattle.act1_words.specs.Given.{count_rule, file_rule, number_rule, plain_app, text_rule}
use Rattle.act1_words.specs.declared.command.Command.TheVariants.{Unknown, Flow, Sim, Extract, Search, Blif, Demo}

with_defaults : command_of (codes "flow" ∷ codes "d" ∷ codes "b" ∷ codes "f" ∷ codes "r" ∷ [])
    ≡ Flow (record { device = codes "d"; blif = codes "b"; fuses = codes "f"; report = codes "r"; k = 3; budget = 100000; seed = 0; jobs = 0; program = [] })
unfolding command_of flow_app file_rule number_rule text_rule plain_app clap_on_literals
with_defaults = refl

with_options : command_of (codes "flow" ∷ codes "--k=+07" ∷ codes "d" ∷ codes "b" ∷ codes "--with" ∷ codes "x" ∷ codes "f" ∷ codes "r" ∷ codes "--jobs" ∷ codes "64" ∷ [])
    ≡ Flow (record { device = codes "d"; blif = codes "b"; fuses = codes "f"; report = codes "r"; k = 7; budget = 100000; seed = 0; jobs = 64; program = codes "x" })
unfolding command_of flow_app file_rule number_rule text_rule plain_app clap_on_literals
with_options = refl

no_program : command_of (codes "flow" ∷ codes "d" ∷ codes "b" ∷ codes "f" ∷ codes "r" ∷ codes "--jobs" ∷ codes "1" ∷ []) ≡ Unknown
unfolding command_of flow_app file_rule number_rule text_rule plain_app clap_on_literals
no_program = refl

k_of_65 : command_of (codes "flow" ∷ codes "d" ∷ codes "b" ∷ codes "f" ∷ codes "r" ∷ codes "--k" ∷ codes "65" ∷ []) ≡ Unknown
unfolding command_of flow_app file_rule number_rule text_rule plain_app clap_on_literals
k_of_65 = refl

filled : command_of (codes "sim" ∷ codes "d" ∷ codes "f" ∷ codes "v" ∷ codes "--fill" ∷ codes "1" ∷ []) ≡ Sim (record { device = codes "d"; fuses = codes "f"; vectors = codes "v"; fill = true })
unfolding command_of sim_app file_rule number_rule plain_app clap_on_literals
filled = refl

unfilled : command_of (codes "sim" ∷ codes "d" ∷ codes "f" ∷ codes "v" ∷ []) ≡ Sim (record { device = codes "d"; fuses = codes "f"; vectors = codes "v"; fill = false })
unfolding command_of sim_app file_rule number_rule plain_app clap_on_literals
unfilled = refl

behind_dashes : command_of (codes "search" ∷ codes "--" ∷ codes "-j" ∷ codes "a" ∷ []) ≡ Search (record { job = codes "-j"; answer = codes "a" })
unfolding command_of search_app file_rule plain_app clap_on_literals
behind_dashes = refl

one_dash : command_of (codes "blif" ∷ codes "-" ∷ []) ≡ Blif (record { blif = codes "-" })
unfolding command_of blif_app file_rule plain_app clap_on_literals
one_dash = refl

help : command_of (codes "blif" ∷ codes "--help" ∷ []) ≡ Unknown
unfolding command_of blif_app file_rule plain_app clap_on_literals
help = refl

extracted : command_of (codes "extract" ∷ codes "d" ∷ codes "f" ∷ codes "b" ∷ []) ≡ Extract (record { device = codes "d"; fuses = codes "f"; blif = codes "b" })
unfolding command_of extract_app file_rule plain_app clap_on_literals
extracted = refl

counter : command_of (codes "demo" ∷ codes "d" ∷ codes "+08" ∷ codes "f" ∷ []) ≡ Demo (record { device = codes "d"; bits = 8; fuses = codes "f" })
unfolding command_of demo_app count_rule file_rule plain_app clap_on_literals
counter = refl

bits_of_65 : command_of (codes "demo" ∷ codes "d" ∷ codes "65" ∷ codes "f" ∷ []) ≡ Unknown
unfolding command_of demo_app count_rule file_rule plain_app clap_on_literals
bits_of_65 = refl

another : command_of (codes "route" ∷ codes "d" ∷ codes "f" ∷ codes "b" ∷ []) ≡ Unknown
unfolding command_of
another = refl
