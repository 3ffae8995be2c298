-- The sizes of items.
use Rattle.std.proofs.Common.{◌≡◌, ℕ, zero, suc, ◌+◌, ◌-◌, ◌*◌, ◌<◌, ◌≤◌, sym, ap, ◌∙◌, arith}
use Rattle.std.proofs.Common.{refl}
use Rattle.std.proofs.Common.{subst, inl, inr}
use Rattle.std.specs.Prelude.{◌⊎◌}
use Rattle.std.proofs.Math.Nat.{mul-le-mul_left}
use prog.Memory.{up}
use Rattle.gltf_json_record.specs.declared.validation.Checked.{Checked}
use Rattle.gltf_json_record.specs.declared.validation.Checked.TheVariants.{Invalid, Valid}
use Rattle.gltf_json_geometry.specs.declared.accessor.Accessor.{Accessor}
use Rattle.gltf_handles.specs.Sizes.{Means, code_of, data_type, dimensions, component_size}
use Rattle.gltf_handles.specs.Sizes.{multiplicity, item_size}
use Rattle.gltf_handles.specs.declared.accessor.DataType.{DataType}
use Rattle.gltf_handles.specs.declared.accessor.DataType.TheVariants.{I8, U8, I16, U16, U32, F32}
use Rattle.gltf_handles.specs.declared.accessor.Dimensions.{Dimensions}
use Rattle.gltf_handles.specs.declared.accessor.Dimensions.TheVariants.{Scalar, Vec2, Vec3, Vec4}
use Rattle.gltf_handles.specs.declared.accessor.Dimensions.TheVariants.{Mat2, Mat3, Mat4}
use Rattle.gltf_access.specs.Components.{columns_of, rows_of, laid_out, laid_out_as, layout_of}
use Rattle.gltf_access.specs.Components.{bare_size, padded_size, end_size, step}
use Rattle.gltf_access.specs.declared.layout.Layout.{Layout}
use Rattle.gltf_access.specs.Taken.{IsPadded}

-- what a code means decides what a table gives for it
given : {C M : Type 0} (meaning : C → M) (table : M → ℕ) (code : Checked C) (m : M)
    → Means meaning code m → code_of (λ c. table (meaning c)) code ≡ table m
given meaning table Invalid m means = absurd means
given meaning table (Valid c) m means = ap table (sym means)

pub sized : (a : Accessor) (d : DataType) (s : Dimensions) → Means data_type a.component_type d
    → Means dimensions a.type_ s → item_size a ≡ component_size d * multiplicity s
sized a d s m n =
    ap (λ (k : ℕ). k * code_of (λ c. multiplicity (dimensions c)) a.type_)
    (given data_type component_size a.component_type d m)
    ∙ ap (λ (k : ℕ). component_size d * k) (given dimensions multiplicity a.type_ s n)

-- an item of n bytes fits a type
pub item_fits : (n : ℕ) → n ≤ 64 → up 1 (0 + n * 1) < 9223372036854775808
item_fits n h = omega arith

-- ---- the components of an item, whatever padding there is between them

counted : (k : ℕ) (s : Dimensions) → columns_of s * (rows_of s * k) ≡ k * multiplicity s
counted k Scalar = omega arith
counted k Vec2 = omega arith
counted k Vec3 = omega arith
counted k Vec4 = omega arith
counted k Mat2 = omega arith
counted k Mat3 = omega arith
counted k Mat4 = omega arith

bare_of : (k : ℕ) (t : Checked _)
    → bare_size (laid_out_as k t) ≡ k * code_of (λ c. multiplicity (dimensions c)) t
bare_of k Invalid = omega arith
bare_of k (Valid t) = counted k (dimensions t)

pub bare_item : (a : Accessor) → bare_size (layout_of a) ≡ item_size a
bare_item a = bare_of (code_of (λ c. component_size (data_type c)) a.component_type) a.type_

laid_of : (k : ℕ) (t : Checked _) (s : Dimensions) → Means dimensions t s
    → laid_out k s ≡ laid_out_as k t
laid_of k Invalid s means = absurd means
laid_of k (Valid t) s means = ap (laid_out k) means

pub laid : (a : Accessor) (d : DataType) (s : Dimensions) → Means data_type a.component_type d
    → Means dimensions a.type_ s → laid_out (component_size d) s ≡ layout_of a
laid a d s m n =
    ap (λ (k : ℕ). laid_out k s) (sym (given data_type component_size a.component_type d m))
    ∙ laid_of (code_of (λ c. component_size (data_type c)) a.component_type) a.type_ s n

some_component : (d : DataType) → 0 < component_size d
some_component I8 = omega arith
some_component U8 = omega arith
some_component I16 = omega arith
some_component U16 = omega arith
some_component U32 = omega arith
some_component F32 = omega arith

some_shape : (s : Dimensions) → 0 < multiplicity s
some_shape Scalar = omega arith
some_shape Vec2 = omega arith
some_shape Vec3 = omega arith
some_shape Vec4 = omega arith
some_shape Mat2 = omega arith
some_shape Mat3 = omega arith
some_shape Mat4 = omega arith

some_product : (m n : ℕ) → 0 < m → 0 < n → 0 < m * n
some_product zero n h k = absurd (omega (arith, h))
some_product (suc m) zero h k = absurd (omega (arith, k))
some_product (suc m) (suc n) h k = omega arith

pub some_item : (a : Accessor) (d : DataType) (s : Dimensions) → Means data_type a.component_type d
    → Means dimensions a.type_ s → 0 < item_size a
some_item a d s m n =
    subst (λ (k : ℕ). 0 < k) (sym (sized a d s m n))
    (some_product (component_size d) (multiplicity s) (some_component d) (some_shape s))

-- the sizes of items with padding
none_there : {A : Type 0} → ¬ (◌≡◌ {A = ℕ} 0 0) → A
none_there h = absurd (h refl)

pub padded : (d : DataType) (s : Dimensions) → ¬ ((laid_out (component_size d) s).padding ≡ 0)
    → IsPadded (laid_out (component_size d) s)
padded d Scalar h = none_there h
padded d Vec2 h = none_there h
padded d Vec3 h = none_there h
padded d Vec4 h = none_there h
padded I8 Mat2 h = record { some = omega arith; size = inl refl }
padded U8 Mat2 h = record { some = omega arith; size = inl refl }
padded I16 Mat2 h = none_there h
padded U16 Mat2 h = none_there h
padded U32 Mat2 h = none_there h
padded F32 Mat2 h = none_there h
padded I8 Mat3 h = record { some = omega arith; size = inr (inl refl) }
padded U8 Mat3 h = record { some = omega arith; size = inr (inl refl) }
padded I16 Mat3 h = record { some = omega arith; size = inr (inr refl) }
padded U16 Mat3 h = record { some = omega arith; size = inr (inr refl) }
padded U32 Mat3 h = none_there h
padded F32 Mat3 h = none_there h
padded I8 Mat4 h = none_there h
padded U8 Mat4 h = none_there h
padded I16 Mat4 h = none_there h
padded U16 Mat4 h = none_there h
padded U32 Mat4 h = none_there h
padded F32 Mat4 h = none_there h

-- they are small
step_of : (k : ℕ) (s : Dimensions) → k ≤ 4 → step (laid_out k s) ≤ 20
step_of k Scalar h = omega (arith, h)
step_of k Vec2 h = omega (arith, h)
step_of k Vec3 h = omega (arith, h)
step_of k Vec4 h = omega (arith, h)
step_of k Mat2 h = omega (arith, h)
step_of k Mat3 h = omega (arith, h)
step_of k Mat4 h = omega (arith, h)

pub step_small : (k : ℕ) (s : Dimensions) (l : Layout) → k ≤ 4 → l ≡ laid_out k s → step l ≤ 20
step_small k s l h is = subst (λ l. step l ≤ 20) (sym is) (step_of k s h)

many : (k : ℕ) (s : Dimensions) → k ≤ 4 → padded_size (laid_out k s) ≤ 80
many k Scalar h = omega (arith, step_of k Scalar h)
many k Vec2 h = omega (arith, step_of k Vec2 h)
many k Vec3 h = omega (arith, step_of k Vec3 h)
many k Vec4 h = omega (arith, step_of k Vec4 h)
many k Mat2 h = omega (arith, step_of k Mat2 h)
many k Mat3 h = omega (arith, step_of k Mat3 h)
many k Mat4 h = omega (arith, step_of k Mat4 h)

pub padded_small : (k : ℕ) (s : Dimensions) (l : Layout) → k ≤ 4 → l ≡ laid_out k s
    → padded_size l ≤ 80
padded_small k s l h is = subst (λ l. padded_size l ≤ 80) (sym is) (many k s h)

-- ---- where an item ends

ends_of : (k s c p : ℕ) → s ≡ c + p → 0 < k → k * s - p ≡ (k - 1) * s + c
ends_of zero s c p is some = absurd (omega (arith, some))
ends_of (suc k) s c p is some =
    let all : suc k * s ≡ s + k * s = omega arith in
    let before : suc k - 1 ≡ k = omega arith in
    subst (λ (m : ℕ). suc k * s - p ≡ m * s + c) (sym before) (omega (arith, all, is))

pub ends : (l : Layout) (n : ℕ) → n ≡ padded_size l → 0 < l.columns → n - l.padding ≡ end_size l
ends l n is some =
    ap (λ (m : ℕ). m - l.padding) is
    ∙ ends_of l.columns (step l) l.column l.padding refl some

one_of : (k s c : ℕ) → 0 < k → s ≤ k * s
one_of zero s c some = absurd (omega (arith, some))
one_of (suc k) s c some = omega arith

pub padding_within : (l : Layout) (n : ℕ) → n ≡ padded_size l → 0 < l.columns → l.padding ≤ n
padding_within l n is some = omega (arith, is, one_of l.columns (step l) l.column some)

some_of : (k s c : ℕ) → c ≤ s → 0 < k → 0 < (k - 1) * s + c → 0 < k * s
some_of zero s c short some ends = absurd (omega (arith, some))
some_of (suc k) zero c short some ends =
    let none : (suc k - 1) * 0 ≡ 0 = omega arith in
    absurd (omega (arith, ends, short, none))
some_of (suc k) (suc s) c short some ends = omega arith

pub some_apart : (l : Layout) (n : ℕ) → n ≡ padded_size l → 0 < l.columns → 0 < end_size l → 0 < n
some_apart l n is some ends =
    subst (λ (m : ℕ). 0 < m) (sym is)
    (some_of l.columns (step l) l.column (omega arith) some ends)

last_of : (l : Layout) (n : ℕ) → n ≡ end_size l → ¬ (n ≡ 6) → ¬ (n ≡ 11)
    → (end_size l ≡ 6) ⊎ ((end_size l ≡ 11) ⊎ (end_size l ≡ 22)) → end_size l ≡ 22
last_of l n is six eleven (inl h) = absurd (six (is ∙ h))
last_of l n is six eleven (inr (inl h)) = absurd (eleven (is ∙ h))
last_of l n is six eleven (inr (inr h)) = h

pub last_padded : (l : Layout) (n : ℕ) → IsPadded l → n ≡ end_size l → ¬ (n ≡ 6) → ¬ (n ≡ 11)
    → end_size l ≡ 22
last_padded l n h is six eleven = last_of l n is six eleven h.size

bare_of_ends : (k s c : ℕ) → c ≤ s → k * c ≤ (k - 1) * s + c
bare_of_ends zero s c short = omega arith
bare_of_ends (suc k) s c short =
    let before : suc k - 1 ≡ k = omega arith in
    let all : suc k * c ≡ c + k * c = omega arith in
    subst (λ (m : ℕ). suc k * c ≤ m * s + c) (sym before)
    (omega (arith, all, mul-le-mul_left k short))

pub bare_le : (l : Layout) → bare_size l ≤ end_size l
bare_le l = bare_of_ends l.columns (step l) l.column (omega arith)

tight_of : (k c n : ℕ) → k * c ≡ n → 0 < n → (k - 1) * c + c ≡ n
tight_of zero c n is some = absurd (omega (arith, is, some))
tight_of (suc k) c n is some =
    let before : suc k - 1 ≡ k = omega arith in
    let all : suc k * c ≡ c + k * c = omega arith in
    subst (λ (m : ℕ). m * c + c ≡ n) (sym before) (omega (arith, all, is))

-- without padding an item ends with its bytes
pub tight_ends : (l : Layout) (n : ℕ) → l.padding ≡ 0 → bare_size l ≡ n → 0 < n → end_size l ≡ n
tight_ends l n none is some =
    let s : step l ≡ l.column = omega (arith, none) in
    ap (λ (m : ℕ). (l.columns - 1) * m + l.column) s ∙ tight_of l.columns l.column n is some

pub tight_size : (l : Layout) (n : ℕ) → l.padding ≡ 0 → bare_size l ≡ n → padded_size l ≡ n
tight_size l n none is =
    let s : step l ≡ l.column = omega (arith, none) in
    ap (λ (m : ℕ). l.columns * m) s ∙ is

pub product_small : (m n : ℕ) → m ≤ 4 → n ≤ 4 → m * n ≤ 16
product_small m n h k = omega (arith, mul-le-mul_left m k, h)
