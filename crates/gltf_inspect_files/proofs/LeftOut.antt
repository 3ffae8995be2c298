-- Where accessors are left out, each of them is told, and of all others the same is found.
use Rattle.std.proofs.Common.{◌≡◌, ◌⊎◌, ◌+◌, ℕ, zero, suc, Bool, true, false, List, [], ◌∷◌, Option}
use Rattle.std.proofs.Common.{Some, None, inl, inr, refl, sym, ap, ◌∙◌, subst, ⊎_elim, codes, arith}
use Rattle.std.specs.Prelude.{slice_get, if◌then◌else◌}
use Rattle.gltf_json.specs.declared.root.Root.{Root}
use Rattle.gltf_json_geometry.specs.declared.accessor.Accessor.{Accessor}
use Rattle.gltf_json_record.specs.Place.{Place, named, numbered}
use Rattle.std.proofs.lemmas.Bool.{true≢false}
use Rattle.gltf_findings.specs.Checks.{Checks, Nothing, Condition, At, ◌&◌, Fails}
use Rattle.gltf_findings.specs.Checks.{optional_checks, elements_checks}
use Rattle.gltf_findings.specs.declared.code.Code.{Code}
use Rattle.gltf_findings.specs.declared.code.Code.TheVariants.{ItemsNotLookedAt}
use Rattle.gltf_inspect_items.specs.Attributes.{vertex_count}
use Rattle.gltf_inspect_items.specs.Documents.{items_checks}
use Rattle.gltf_inspect_items.specs.Indices.{are_triangles, index_checks, primitive_checks}
use Rattle.gltf_inspect_items.specs.Indices.{mesh_checks}
use Rattle.gltf_inspect_items.specs.Plans.{index_checks_but, primitive_checks_but, mesh_checks_but}
use Rattle.gltf_inspect_items.specs.Plans.{items_checks_but}
use Rattle.gltf_inspect_items.specs.Reading.{Bytes}
use Rattle.gltf_inspect_values.specs.Accessors.{accessor_checks}
use Rattle.gltf_inspect_values.specs.Bounds.{each_checks}
use Rattle.gltf_inspect_values.specs.Documents.{values_checks}
use Rattle.gltf_inspect_values.specs.Plans.{accessor_checks_but}
use Rattle.gltf_inspect_values.specs.Plans.{sampler_checks_but, animation_checks_but}
use Rattle.gltf_inspect_values.specs.Plans.{values_checks_but}
use Rattle.gltf_inspect_values.specs.Times.{times, times_checks, sampler_checks, animation_checks}
use Rattle.gltf_inspect_files.specs.LeftOut.{IsOfLeftOut}
use Rattle.gltf_inspect_files.specs.LeftOut.{SaysLeftOut}
use Rattle.gltf_inspect_files.specs.Reports.{contents_checks}
use Rattle.gltf_inspect_files.specs.Within.{contents_checks_but}

-- ---- from one check to another, but for some places

-- what fails of the one fails of the other, but at some places
record Leads (some others : Checks) (But : List Place → Code → Type 0) : Type 0 where
  to : (path : List Place) (code : Code) → Fails some path code
      → Fails others path code ⊎ But path code

same_leads : (checks : Checks) (But : List Place → Code → Type 0) → Leads checks checks But
same_leads checks But = record { to = λ path code fails. inl fails }

nothing_leads : (checks : Checks) (But : List Place → Code → Type 0) → Leads Nothing checks But
nothing_leads checks But = record { to = λ path code fails. absurd (true≢false fails) }

at_leads : (step : Place) (a b : Checks) (But : List Place → Code → Type 0)
    → Leads a b (λ rest code. But (step ∷ rest) code) → Leads (At step a) (At step b) But
at_leads step a b But leads = record {
  to = λ path code fails.
      ⊎_elim {C = Fails (At step b) path code ⊎ But path code}
      (λ same. inl (fails.0, fails.1, same))
      (λ out. inr (subst (λ (p : List Place). But p code) (sym fails.1) out))
      (leads.to fails.0 code fails.2);
}

both_lead : (a b c d : Checks) (But : List Place → Code → Type 0) → Leads a b But → Leads c d But
    → Leads (a & c) (b & d) But
both_lead a b c d But first second = record {
  to = λ path code fails.
      ⊎_elim {C = (Fails b path code ⊎ Fails d path code) ⊎ But path code}
      (λ one.
      ⊎_elim {C = (Fails b path code ⊎ Fails d path code) ⊎ But path code}
      (λ same. inl (inl same)) (λ out. inr out) (first.to path code one))
      (λ other.
      ⊎_elim {C = (Fails b path code ⊎ Fails d path code) ⊎ But path code}
      (λ same. inl (inr same)) (λ out. inr out) (second.to path code other)) fails;
}

-- x is the element with index n of a list whose first has index i
Among : {T : Type 0} → ℕ → List T → ℕ → T → Type 0
Among i [] n x = ⊥
Among i (y ∷ ys) n x = ((n ≡ i) × (x ≡ y)) ⊎ Among (i + 1) ys n x

among_get : {T : Type 0} (i : ℕ) (xs : List T) (n : ℕ) (x : T) → Among i xs n x
    → (k : ℕ) × (n ≡ i + k) × (slice_get xs k ≡ Some x)
unfolding Among
among_get i [] n x is = absurd is
among_get i (y ∷ ys) n x (inl is) =
    (0, omega (arith, is.0), ap (λ z. Some z) (sym is.1))
among_get i (y ∷ ys) n x (inr more) =
    let found = among_get (i + 1) ys n x more in
    (suc found.0, omega (arith, found.1), found.2)

get_of : {T : Type 0} (xs : List T) (n : ℕ) (x : T) → Among 0 xs n x → slice_get xs n ≡ Some x
get_of xs n x is =
    let found = among_get 0 xs n x is in
    let same : n ≡ found.0 = omega (arith, found.1) in
    ap (λ (k : ℕ). slice_get xs k) same ∙ found.2

elements_lead : {T : Type 0} (f g : T → Checks) (But : List Place → Code → Type 0) (i : ℕ)
    (xs : List T) → ((n : ℕ) (x : T) → Among i xs n x
    → Leads (f x) (g x) (λ rest code. But (numbered n ∷ rest) code))
    → Leads (elements_checks f i xs) (elements_checks g i xs) But
unfolding Among
elements_lead f g But i [] leads = same_leads Nothing But
elements_lead f g But i (x ∷ xs) leads =
    both_lead (At (numbered i) (f x)) (At (numbered i) (g x)) (elements_checks f (i + 1) xs)
    (elements_checks g (i + 1) xs) But
    (at_leads (numbered i) (f x) (g x) But (leads i x (inl (refl, refl))))
    (elements_lead f g But (i + 1) xs (λ n y among. leads n y (inr among)))

each_lead : {T : Type 0} (f g : ℕ → T → Checks) (But : List Place → Code → Type 0) (i : ℕ)
    (xs : List T) → ((n : ℕ) (x : T) → Among i xs n x
    → Leads (f n x) (g n x) (λ rest code. But (numbered n ∷ rest) code))
    → Leads (each_checks f i xs) (each_checks g i xs) But
unfolding Among
each_lead f g But i [] leads = same_leads Nothing But
each_lead f g But i (x ∷ xs) leads =
    both_lead (At (numbered i) (f i x)) (At (numbered i) (g i x)) (each_checks f (i + 1) xs)
    (each_checks g (i + 1) xs) But
    (at_leads (numbered i) (f i x) (g i x) But (leads i x (inl (refl, refl))))
    (each_lead f g But (i + 1) xs (λ n y among. leads n y (inr among)))

-- ---- no more is found

module _ (out : ℕ → Bool) (r : Root) (bytes : Bytes) where
  abbrev Said : List Place → Code → Type 0
  Said path code = SaysLeftOut out path code

  if_leads : (b : Bool) (checks : Checks) (But : List Place → Code → Type 0)
      → Leads (if b then Nothing else checks) checks But
  if_leads true checks But = nothing_leads checks But
  if_leads false checks But = same_leads checks But

  optional_leads : (vertices : Option ℕ) (triangles : Bool) (index : Option ℕ)
      (But : List Place → Code → Type 0)
      → Leads (optional_checks (index_checks_but out r bytes vertices triangles) index)
      (optional_checks (index_checks r bytes vertices triangles) index) But
  optional_leads vertices triangles None But = same_leads Nothing But
  optional_leads vertices triangles (Some i) But =
      if_leads (out i) (index_checks r bytes vertices triangles i) But

  more_in_items : Leads (items_checks_but out r bytes) (items_checks r bytes) Said
  more_in_items =
      at_leads (named (codes "meshes")) _ _ Said
      (elements_lead (mesh_checks_but out r bytes) (mesh_checks r bytes) _ 0 r.meshes.items
      (λ m mesh among.
      at_leads (named (codes "primitives")) _ _ _
      (elements_lead (primitive_checks_but out r bytes) (primitive_checks r bytes) _ 0
      mesh.primitives.items
      (λ p primitive there.
      at_leads (named (codes "indices")) _ _ _
      (optional_leads (vertex_count r.accessors.items primitive.attributes.entries)
      (are_triangles primitive.mode) primitive.indices _)))))

  accessor_by : (i : ℕ) (a : Accessor) (b : Bool) → out i ≡ b
      → Leads (if b then Condition false ItemsNotLookedAt else accessor_checks r bytes i a)
      (accessor_checks r bytes i a)
      (λ rest code. Said (named (codes "accessors") ∷ numbered i ∷ rest) code)
  accessor_by i a true is = record {
    to = λ path code fails.
        inr (record { index = i; rest = path; is_out = is; at = refl }, fails.2);
  }
  accessor_by i a false is = same_leads (accessor_checks r bytes i a) _

  more_in_values : Leads (values_checks_but out r bytes) (values_checks r bytes) Said
  more_in_values =
      both_lead _ _ _ _ Said
      (at_leads (named (codes "accessors")) _ _ Said
      (each_lead (accessor_checks_but out r bytes) (accessor_checks r bytes) _ 0 r.accessors.items
      (λ i a among. accessor_by i a (out i) refl)))
      (at_leads (named (codes "animations")) _ _ Said
      (elements_lead (animation_checks_but out r bytes) (animation_checks r bytes) _ 0
      r.animations.items
      (λ n animation among.
      at_leads (named (codes "samplers")) _ _ _
      (elements_lead (sampler_checks_but out r bytes) (sampler_checks r bytes) _ 0
      animation.samplers.items
      (λ k sampler there.
      at_leads (named (codes "input")) _ _ _
      (if_leads (out sampler.input) (times_checks (times r bytes sampler.input)) _))))))

  more_in_all : Leads (contents_checks_but out r bytes) (contents_checks r bytes) Said
  more_in_all =
      both_lead (items_checks_but out r bytes) (items_checks r bytes) (values_checks_but out r bytes)
      (values_checks r bytes) Said more_in_items more_in_values

  -- ---- no less is found

  abbrev Left : List Place → Code → Type 0
  Left path code = IsOfLeftOut out r path

  -- all that fails is at what is left out, or nothing is left out
  unless : (b : Bool) (checks : Checks) (But : List Place → Code → Type 0)
      → (b ≡ true → (path : List Place) (code : Code) → But path code)
      → Leads checks (if b then Nothing else checks) But
  unless true checks But of_out = record { to = λ path code fails. inr (of_out refl path code) }
  unless false checks But of_out = same_leads checks But

  index_unless : (vertices : Option ℕ) (triangles : Bool) (index : Option ℕ)
      (But : List Place → Code → Type 0)
      → ((i : ℕ) → index ≡ Some i → out i ≡ true → (path : List Place) (code : Code)
      → But path code)
      → Leads (optional_checks (index_checks r bytes vertices triangles) index)
      (optional_checks (index_checks_but out r bytes vertices triangles) index) But
  index_unless vertices triangles None But of_out = same_leads Nothing But
  index_unless vertices triangles (Some i) But of_out =
      unless (out i) (index_checks r bytes vertices triangles i) But (of_out i refl)

  less_in_items : Leads (items_checks r bytes) (items_checks_but out r bytes) Left
  less_in_items =
      at_leads (named (codes "meshes")) _ _ Left
      (elements_lead (mesh_checks r bytes) (mesh_checks_but out r bytes) _ 0 r.meshes.items
      (λ m mesh among.
      at_leads (named (codes "primitives")) _ _ _
      (elements_lead (primitive_checks r bytes) (primitive_checks_but out r bytes) _ 0
      mesh.primitives.items
      (λ p primitive there.
      at_leads (named (codes "indices")) _ _ _
      (index_unless (vertex_count r.accessors.items primitive.attributes.entries)
      (are_triangles primitive.mode) primitive.indices _
      (λ i has is rest code. inr (inl record {
        mesh = m;
        m = mesh;
        has_mesh = get_of r.meshes.items m mesh among;
        primitive = p;
        p = primitive;
        has_primitive = get_of mesh.primitives.items p primitive there;
        index = i;
        has_index = has;
        is_out = is;
        rest = rest;
        at = refl;
      })))))))

  unless_accessor : (i : ℕ) (a : Accessor) (b : Bool) → out i ≡ b
      → Leads (accessor_checks r bytes i a)
      (if b then Condition false ItemsNotLookedAt else accessor_checks r bytes i a)
      (λ rest code. Left (named (codes "accessors") ∷ numbered i ∷ rest) code)
  unless_accessor i a true is = record {
    to = λ path code fails. inr (inl record { index = i; rest = path; is_out = is; at = refl });
  }
  unless_accessor i a false is = same_leads (accessor_checks r bytes i a) _

  less_in_values : Leads (values_checks r bytes) (values_checks_but out r bytes) Left
  less_in_values =
      both_lead _ _ _ _ Left
      (at_leads (named (codes "accessors")) _ _ Left
      (each_lead (accessor_checks r bytes) (accessor_checks_but out r bytes) _ 0 r.accessors.items
      (λ i a among. unless_accessor i a (out i) refl)))
      (at_leads (named (codes "animations")) _ _ Left
      (elements_lead (animation_checks r bytes) (animation_checks_but out r bytes) _ 0
      r.animations.items
      (λ n animation among.
      at_leads (named (codes "samplers")) _ _ _
      (elements_lead (sampler_checks r bytes) (sampler_checks_but out r bytes) _ 0
      animation.samplers.items
      (λ k sampler there.
      at_leads (named (codes "input")) _ _ _
      (unless (out sampler.input) (times_checks (times r bytes sampler.input)) _
      (λ is rest code. inr (inr record {
        animation = n;
        a = animation;
        has_animation = get_of r.animations.items n animation among;
        sampler = k;
        s = sampler;
        has_sampler = get_of animation.samplers.items k sampler there;
        is_out = is;
        rest = rest;
        at = refl;
      }))))))))

  less_in_all : Leads (contents_checks r bytes) (contents_checks_but out r bytes) Left
  less_in_all =
      both_lead (items_checks r bytes) (items_checks_but out r bytes) (values_checks r bytes)
      (values_checks_but out r bytes) Left less_in_items less_in_values

  -- ---- each that is left out is told

  told_by : (i : ℕ) (a : Accessor) (b : Bool) → out i ≡ b → b ≡ true
      → Fails (if b then Condition false ItemsNotLookedAt else accessor_checks r bytes i a) []
      ItemsNotLookedAt
  told_by i a true is fact = (refl, refl, refl)
  told_by i a false is fact = absurd (true≢false (sym fact))

  told_among : (i : ℕ) (xs : List Accessor) (k : ℕ) (a : Accessor) → slice_get xs k ≡ Some a
      → out (i + k) ≡ true
      → Fails (each_checks (accessor_checks_but out r bytes) i xs) (numbered (i + k) ∷ [])
      ItemsNotLookedAt
  told_among i [] k a here is = cc
  told_among i (x ∷ xs) zero a here is =
      let same : i + 0 ≡ i = omega arith in
      let this : out i ≡ true = ap out (sym same) ∙ is in
      inl ([], ap (λ (n : ℕ). numbered n ∷ []) same, told_by i x (out i) refl this)
  told_among i (x ∷ xs) (suc k) a here is =
      let same : i + suc k ≡ (i + 1) + k = omega arith in
      inr (subst (λ (n : ℕ). Fails (each_checks (accessor_checks_but out r bytes) (i + 1) xs)
      (numbered n ∷ []) ItemsNotLookedAt) (sym same)
      (told_among (i + 1) xs k a here (ap out (sym same) ∙ is)))

  told_in_all : (i : ℕ) (a : Accessor) → slice_get r.accessors.items i ≡ Some a → out i ≡ true
      → Fails (contents_checks_but out r bytes) (named (codes "accessors") ∷ numbered i ∷ [])
      ItemsNotLookedAt
  told_in_all i a here is =
      let same : 0 + i ≡ i = omega arith in
      inr (inl (
        numbered i ∷ [],
        refl,
        subst (λ (n : ℕ). Fails (each_checks (accessor_checks_but out r bytes) 0 r.accessors.items)
            (numbered n ∷ []) ItemsNotLookedAt) same
            (told_among 0 r.accessors.items i a here (ap out same ∙ is)),
      ))

pub each_is_told : (out : ℕ → Bool) (r : Root) (bytes : Bytes) (i : ℕ) (a : Accessor)
    → slice_get r.accessors.items i ≡ Some a → out i ≡ true
    → Fails (contents_checks_but out r bytes) (named (codes "accessors") ∷ numbered i ∷ [])
    ItemsNotLookedAt
each_is_told out r bytes = told_in_all out r bytes

pub no_more_found : (out : ℕ → Bool) (r : Root) (bytes : Bytes) (path : List Place) (code : Code)
    → Fails (contents_checks_but out r bytes) path code
    → Fails (contents_checks r bytes) path code ⊎ SaysLeftOut out path code
no_more_found out r bytes = (more_in_all out r bytes).to

pub no_less_found : (out : ℕ → Bool) (r : Root) (bytes : Bytes) (path : List Place) (code : Code)
    → Fails (contents_checks r bytes) path code
    → Fails (contents_checks_but out r bytes) path code ⊎ IsOfLeftOut out r path
no_less_found out r bytes = (less_in_all out r bytes).to
