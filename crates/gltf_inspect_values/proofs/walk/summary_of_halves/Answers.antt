use Rattle.std.proofs.Common.{ℕ, subst}
use Rattle.std.specs.Prelude.{slice_get}
use Rattle.gltf_shared.specs.Shown.{lent_bytes}
use Rattle.gltf_json_geometry.specs.declared.accessor.«Type».TheVariants as shape
use Rattle.gltf_inspect_items.specs.Reading.{items_at}
use Rattle.gltf_inspect_values.specs.Components.{number_at}
use Rattle.gltf_inspect_values.specs.Items.{as_bytes}
use Rattle.gltf_inspect_values.specs.Summaries.{IsSummary}
use Rattle.gltf_inspect_values.proofs.Sizes.{in_shape, in_no_shape}
use Rattle.gltf_inspect_values.proofs.walk.summary_of_halves.Goals as goal

pub returns-in-Invalid : goal.returns-in-Invalid
returns-in-Invalid g c =
    subst (λ (n : ℕ). IsSummary (number_at g.T.Item.size g.T.Item.value g.T.Component.number)
    g.T.Component.any_infinite (items_at (as_bytes n) c.args.place.document.now
    (slice_get (lent_bytes c.args.place.buffers.now)) c.args.place.index) c.summary.result)
    (in_no_shape 2 c.args.shape c.in-Invalid.is) c.summary.ensures

pub returns-in-Scalar : goal.returns-in-Scalar
returns-in-Scalar g c =
    subst (λ (n : ℕ). IsSummary (number_at g.T.Item.size g.T.Item.value g.T.Component.number)
    g.T.Component.any_infinite (items_at (as_bytes n) c.args.place.document.now
    (slice_get (lent_bytes c.args.place.buffers.now)) c.args.place.index) c.summary-in-Scalar.result)
    (in_shape 2 c.args.shape _ shape.Scalar c.in-Valid.is c.in-Scalar.is) c.summary-in-Scalar.ensures

pub returns-in-Vec2 : goal.returns-in-Vec2
returns-in-Vec2 g c =
    subst (λ (n : ℕ). IsSummary (number_at g.T.Item.size g.T.Item.value g.T.Component.number)
    g.T.Component.any_infinite (items_at (as_bytes n) c.args.place.document.now
    (slice_get (lent_bytes c.args.place.buffers.now)) c.args.place.index) c.summary-in-Vec2.result)
    (in_shape 2 c.args.shape _ shape.Vec2 c.in-Valid.is c.in-Vec2.is) c.summary-in-Vec2.ensures

pub returns-in-Vec3 : goal.returns-in-Vec3
returns-in-Vec3 g c =
    subst (λ (n : ℕ). IsSummary (number_at g.T.Item.size g.T.Item.value g.T.Component.number)
    g.T.Component.any_infinite (items_at (as_bytes n) c.args.place.document.now
    (slice_get (lent_bytes c.args.place.buffers.now)) c.args.place.index) c.summary-in-Vec3.result)
    (in_shape 2 c.args.shape _ shape.Vec3 c.in-Valid.is c.in-Vec3.is) c.summary-in-Vec3.ensures

pub returns-in-Vec4 : goal.returns-in-Vec4
returns-in-Vec4 g c =
    subst (λ (n : ℕ). IsSummary (number_at g.T.Item.size g.T.Item.value g.T.Component.number)
    g.T.Component.any_infinite (items_at (as_bytes n) c.args.place.document.now
    (slice_get (lent_bytes c.args.place.buffers.now)) c.args.place.index) c.summary-in-Vec4.result)
    (in_shape 2 c.args.shape _ shape.Vec4 c.in-Valid.is c.in-Vec4.is) c.summary-in-Vec4.ensures

pub returns-in-Mat2 : goal.returns-in-Mat2
returns-in-Mat2 g c =
    subst (λ (n : ℕ). IsSummary (number_at g.T.Item.size g.T.Item.value g.T.Component.number)
    g.T.Component.any_infinite (items_at (as_bytes n) c.args.place.document.now
    (slice_get (lent_bytes c.args.place.buffers.now)) c.args.place.index) c.summary-in-Mat2.result)
    (in_shape 2 c.args.shape _ shape.Mat2 c.in-Valid.is c.in-Mat2.is) c.summary-in-Mat2.ensures

pub returns-in-Mat3 : goal.returns-in-Mat3
returns-in-Mat3 g c =
    subst (λ (n : ℕ). IsSummary (number_at g.T.Item.size g.T.Item.value g.T.Component.number)
    g.T.Component.any_infinite (items_at (as_bytes n) c.args.place.document.now
    (slice_get (lent_bytes c.args.place.buffers.now)) c.args.place.index) c.summary-in-Mat3.result)
    (in_shape 2 c.args.shape _ shape.Mat3 c.in-Valid.is c.in-Mat3.is) c.summary-in-Mat3.ensures

pub returns-in-Mat4 : goal.returns-in-Mat4
returns-in-Mat4 g c =
    subst (λ (n : ℕ). IsSummary (number_at g.T.Item.size g.T.Item.value g.T.Component.number)
    g.T.Component.any_infinite (items_at (as_bytes n) c.args.place.document.now
    (slice_get (lent_bytes c.args.place.buffers.now)) c.args.place.index) c.summary-in-Mat4.result)
    (in_shape 2 c.args.shape _ shape.Mat4 c.in-Valid.is c.in-Mat4.is) c.summary-in-Mat4.ensures
