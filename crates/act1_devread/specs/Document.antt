-- What a document has at the keys of a device file, over the documents that `toml` states.
use Rattle.std.specs.Prelude.{◌≡◌, ℤ, pos, List, [], ◌∷◌, ℕ, codes, Option, Some, None, option_map, option_and_then, unwrap_or, IsUtf8}
use Rattle.toml.specs.Data.{Data, array, Items, no_items, item, Members, get_member, as_integer, as_str}
use Rattle.toml.specs.Parse.{parse_document}
use Rattle.act1_devread.specs.declared.values.Values.{Values}

-- the bytes are a document, with these members
abbrev pub IsDocument : List ℕ → Members → Type 0
IsDocument bytes ms = IsUtf8 bytes × (parse_document bytes ≡ Some ms)

-- the bytes aren't UTF-8, or the grammar of TOML refuses them
abbrev pub IsNoDocument : List ℕ → Type 0
IsNoDocument bytes = IsUtf8 bytes → parse_document bytes ≡ None

-- what f gives for each of the items, if it gives something for each
abbrev pub each : {A : Type 0} → (Data → Option A) → Items → Option (List A)
each f no_items = Some []
each f (item d ds) = option_and_then (λ x. option_map (λ xs. x ∷ xs) (each f ds)) (f d)

-- the same for the items of an array; another value gives nothing
abbrev pub list_of : {A : Type 0} → (Data → Option A) → Data → Option (List A)
list_of f (array ds) = each f ds
list_of f _ = None

-- two integers
abbrev pub both : Option ℤ → Option ℤ → Option (ℤ × ℤ)
both (Some a) (Some b) = Some (a, b)
both _ _ = None

-- the two integers that the items are, if they are two integers
abbrev pub pair_items : Items → Option (ℤ × ℤ)
pair_items (item a (item b no_items)) = both (as_integer a) (as_integer b)
pair_items _ = None

-- an array of two integers
abbrev pub pair_of : Data → Option (ℤ × ℤ)
pair_of (array ds) = pair_items ds
pair_of _ = None

-- the integer at a key
unfoldable pub integer_at : List ℕ → Members → Option ℤ
integer_at key ms = option_and_then as_integer (get_member key ms)

-- the bytes of the text at a key
unfoldable pub text_at : List ℕ → Members → Option (List ℕ)
text_at key ms = option_and_then as_str (get_member key ms)

-- the list of lists of lists of integers at a key
unfoldable pub tracks_at : List ℕ → Members → Option (List (List (List ℤ)))
tracks_at key ms = option_and_then (list_of (list_of (list_of as_integer))) (get_member key ms)

-- the list of lists of two integers at a key
unfoldable pub pairs_at : List ℕ → Members → Option (List (ℤ × ℤ))
pairs_at key ms = option_and_then (list_of pair_of) (get_member key ms)

-- What the document has at the ten keys. Where a key has no value of its kind, the document is refused, whatever stands here for it.
unfoldable pub values_of : Members → Values
values_of ms = record {
  format = unwrap_or (integer_at (codes "format") ms) (pos 0);
  name = unwrap_or (text_at (codes "name") ms) [];
  rows = unwrap_or (integer_at (codes "rows") ms) (pos 0);
  columns = unwrap_or (integer_at (codes "columns") ms) (pos 0);
  pins = unwrap_or (text_at (codes "pins") ms) [];
  below = unwrap_or (integer_at (codes "below") ms) (pos 0);
  above = unwrap_or (integer_at (codes "above") ms) (pos 0);
  tracks = unwrap_or (tracks_at (codes "tracks") ms) [];
  longs = unwrap_or (pairs_at (codes "longs") ms) [];
  pads = unwrap_or (pairs_at (codes "pads") ms) [];
}
