-- What a list of links joins. A link is a pair of things, in no order.
use Rattle.std.specs.Prelude.{◌≡◌, ◌⊎◌, List, [], ◌∷◌, Contains}

module _ {V : Type 0} where
  -- a link has these two as its ends
  abbrev pub Linked : List (V × V) → V → V → Type 0
  Linked links a b = Contains links (a, b) ⊎ Contains links (b, a)

  -- the path leads from a to b, each step by a link
  abbrev pub Leads : List (V × V) → V → List V → V → Type 0
  Leads links a [] b = a ≡ b
  Leads links a (c ∷ path) b = Linked links a c × Leads links c path b

  -- some path leads from a to b; the empty path leads from a to itself
  pub record Joined (links : List (V × V)) (a b : V) : Type 0 where
    pub path : List V
    pub leads : Leads links a path b
