-- Where bytes that stand outside a document come from, and which of them are given for a name
-- (glTF 2.0, section 2.8).
use Rattle.std.specs.Prelude.{◌≡◌, ℕ, List, Option, Some, None, IsSome, ⊤, ◌⊎◌, []}
use Rattle.std.specs.Borrow.{MutBor}
use Rattle.std.proofs.Common.{inl, inr}
use Rattle.gltf_names.specs.Named.{Named, File, Relative}
use Rattle.gltf_buffers.specs.Uri as uri

-- no name can be asked for; names can, and nothing is known of what they hold; or each holds this
pub data Names : Type 0 where
  Nowhere : Names
  Anywhere : Names
  Held : (Named → Option (List ℕ)) → Names

-- what is known of the names of a source: what they hold, where it is honest
abbrev pub names_of : Option (Named → Option (List ℕ)) → Names
names_of None = Anywhere
names_of (Some holds) = Held holds

-- names can be asked for
abbrev pub CanBeAsked : Names → Type 0
CanBeAsked Nowhere = ⊥
CanBeAsked _ = ⊤

-- what names give is known
abbrev pub AreKnown : Names → Type 0
AreKnown Anywhere = ⊥
AreKnown _ = ⊤

-- these bytes may be given for a name
abbrev pub Gives : Names → Named → List ℕ → Type 0
Gives Nowhere name bytes = ⊥
Gives Anywhere name bytes = ⊤
Gives (Held holds) name bytes = holds name ≡ Some bytes

-- this may have been given where a URI leads to a name, or to none: nothing where no name can be
-- asked for
abbrev pub MayBeGiven : Names → Option Named → Option (List ℕ) → Type 0
MayBeGiven names None given = ⊤
MayBeGiven Nowhere (Some name) given = given ≡ None
MayBeGiven Anywhere (Some name) given = IsSome given
MayBeGiven (Held holds) (Some name) given = IsSome given × (holds name ≡ given)

-- the name that a URI leads to
abbrev pub name_of : uri.Meaning → Option Named
name_of (uri.Payload text) = None
name_of (uri.File text) = Some (File text)
name_of (uri.Relative text) = Some (Relative text)
name_of uri.Unsupported = None

-- what is seen of a source that may be absent: this where it is
abbrev pub seen_in : {S A : Type 0} → A → (S → A) → Option (MutBor S) → A
seen_in absent see None = absent
seen_in absent see (Some source) = see source.now

-- the same when a call has returned
abbrev pub seen_left : {S A : Type 0} → A → (S → A) → Unit {0} ⊎ ((MutBor S × Unit {0}) ⊎ ⊥) → A
seen_left absent see (inl none) = absent
seen_left absent see (inr (inl source)) = see source.0.now
seen_left absent see (inr (inr never)) = absurd never

-- what is known of the names of such a source
abbrev pub names_in : {S : Type 0} → (S → Option (Named → Option (List ℕ))) → Option (MutBor S)
    → Names
names_in held = seen_in Nowhere (λ source. names_of (held source))

abbrev pub names_left : {S : Type 0} → (S → Option (Named → Option (List ℕ)))
    → Unit {0} ⊎ ((MutBor S × Unit {0}) ⊎ ⊥) → Names
names_left held = seen_left Nowhere (λ source. names_of (held source))

-- the names whose reads failed, of such a source
abbrev pub failures_in : {S : Type 0} → (S → List Named) → Option (MutBor S) → List Named
failures_in = seen_in []

abbrev pub failures_left : {S : Type 0} → (S → List Named)
    → Unit {0} ⊎ ((MutBor S × Unit {0}) ⊎ ⊥) → List Named
failures_left = seen_left []
