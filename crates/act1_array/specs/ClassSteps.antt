-- Classes of wires: two wires are in one class exactly where they are joined.
use Rattle.std.specs.Prelude.{ℕ, All, Contains, List, None, Option, Some, [], if◌then◌else◌, length, map, slice_get, slice_index_or, slice_set, ◌<◌, ◌==◌, ◌∷◌, ◌≡◌, ◌⊎◌}
use Rattle.act1_array.specs.declared.classes.Classes.{Classes}
use Rattle.act1_base.specs.Joined.{Joined}
use Rattle.act1_device.specs.declared.device.Wire.{Wire}

-- the class of one name has another name
abbrev pub renamed : ℕ → ℕ → ℕ → ℕ
renamed from to class = if class == from then to else class

-- the wires of these numbers have the class
abbrev pub marked : ℕ → List ℕ → List ℕ → List ℕ
marked class [] classes = classes
marked class (wire ∷ wires) classes = marked class wires (slice_set classes wire class)

-- the classes of two wires have become one, by either name
abbrev pub IsMerged : ℕ → ℕ → List ℕ → List ℕ → Type 0
IsMerged first second old new =
    let a = slice_index_or old first 0 in let b = slice_index_or old second 0 in
    (new ≡ map (renamed a b) old) ⊎ (new ≡ map (renamed b a) old)

module _ {V : Type 0} where
  -- the wire is a numbered one, and this is its class
  abbrev pub HasClass : List V → List ℕ → V → ℕ → Type 0
  HasClass wires classes w class = (i : ℕ) × (slice_get wires i ≡ Some w) × (slice_get classes i ≡ Some class)

  -- the ends of all links are numbered, and numbered wires are in one class exactly where the links join them
  pub record AreClasses (links : List (V × V)) (wires : List V) (classes : List ℕ) : Type 0 where
    pub one_each : length classes ≡ length wires
    pub ends : (a b : V) → Contains links (a, b) → Contains wires a × Contains wires b
    pub joined : (a b : V) (class : ℕ) → HasClass wires classes a class → HasClass wires classes b class → Joined links a b
    pub apart : (a b : V) (c d : ℕ) → HasClass wires classes a c → HasClass wires classes b d → Joined links a b → c ≡ d

-- the members of each class are the numbers of the wires that have it
pub record AreMembers (classes : List ℕ) (members : List (List ℕ)) : Type 0 where
  pub as_many : length members ≡ length classes
  pub low : All (λ class. class < length members) classes
  pub each : (i class : ℕ) → slice_get classes i ≡ Some class → Contains (slice_index_or members class []) i
  pub only : (i class : ℕ) → Contains (slice_index_or members class []) i → slice_get classes i ≡ Some class

-- no wire has two numbers, each has a class, and the members are those of the classes
pub record IsWhole (c : Classes) : Type 0 where
  pub once : (i j : ℕ) (w : Wire) → slice_get c.wires.keys i ≡ Some w → slice_get c.wires.keys j ≡ Some w → i ≡ j
  pub one_each : length c.classes.items ≡ length c.wires.keys
  pub members : AreMembers c.classes.items c.members.items

-- the class of a wire; those that no link touches have none
abbrev pub IsClassOf : Classes → Wire → Option ℕ → Type 0
IsClassOf c w (Some class) = HasClass c.wires.keys c.classes.items w class
IsClassOf c w None = ¬ Contains c.wires.keys w
