-- The stages of a command. Each has its own ways to stop, and a later stage stops only where those before it passed; so the first cause is the one that is answered.
use Rattle.std.specs.Prelude.{ℕ, ◌≡◌, ◌⊎◌, List, [], ◌∷◌, codes}
use Rattle.act1_outside.specs.Outside.{Shelf}
use Rattle.act1_frame.specs.declared.ending.Ending.{Ending}
use Rattle.act1_frame.specs.declared.stop.Stop.{Stop}
use Rattle.act1_frame.specs.declared.stop.Stop.TheVariants.{Ends, Memory}
use Rattle.act1_frame.specs.Endings.{refusal}
use Rattle.act1_frame.specs.Reading.{Wanted, ReadFailed, IsTooLong, WasRead, Found}

-- an ending of this kind, or want of memory, which is free
abbrev pub OnStop : (Ending → Type 0) → Stop → Type 0
OnStop Endings (Ends e) = Endings e
OnStop Endings Memory = Unit {0}

-- the bytes under a name can't be had: the read failed, or there are too many
abbrev pub ReadStops : Shelf → Shelf → Wanted → Ending → Type 0
ReadStops before after wanted e =
    (ReadFailed before after wanted.name × (e ≡ refusal 2 (codes "read fault" ∷ wanted.name ∷ [])))
    ⊎ (IsTooLong before wanted × (e ≡ refusal 16 (codes "too long" ∷ wanted.name ∷ [])))

-- a refusal with this status for one of these faults, whose words are printed
abbrev pub RefusedFor : {F : Type 0} → ℕ → (F → List (List ℕ)) → (F → Type 0) → Ending → Type 0
RefusedFor {F} status words Holds e = (fault : F) × Holds fault × (e ≡ refusal status (words fault))

-- any bytes are taken
abbrev pub NeverRefused : List ℕ → Ending → Type 0
NeverRefused bytes e = ⊥

-- a command stops at a file: its bytes can't be had, or are refused
abbrev pub FileStops : (List ℕ → Ending → Type 0) → Shelf → Shelf → Wanted → Ending → Type 0
FileStops Refuses before after wanted e = ReadStops before after wanted e ⊎ ((bytes : List ℕ) × WasRead before wanted bytes × Refuses bytes e)

-- a stage of a command: it stops, or it finds something and the command goes on with that
abbrev pub Then : {X : Type 0} → (X → Type 0) → (Ending → Type 0) → (X → Ending → Type 0) → Ending → Type 0
Then {X} Has Stops Rest e = Stops e ⊎ ((x : X) × Has x × Rest x e)

-- a stage that reads a file
abbrev pub Reads : {X : Type 0} → (List ℕ → X → Type 0) → (List ℕ → Ending → Type 0) → Shelf → Shelf → Wanted → (X → Ending → Type 0) → Ending → Type 0
Reads IsText Refuses before after wanted Rest e = Then (Found IsText before wanted) (FileStops Refuses before after wanted) Rest e
