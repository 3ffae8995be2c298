use Rattle.std.proofs.Common.{option_map}
use Rattle.gltf_data.specs.Iter.{counted_items}
use Rattle.gltf_access.proofs.flat.of_bytes.Goals as goal

pub returns-in-Scalar : goal.returns-in-Scalar
returns-in-Scalar g c =
    rw c.in-Scalar.is (record {
      items = option_map (λ it. (counted_items it).items) c.read.result;
      reads = c.read.ensures.items;
      alike = c.read.ensures.alike;
      written = c.write.ensures;
    })

pub returns-in-Vec2 : goal.returns-in-Vec2
returns-in-Vec2 g c =
    rw c.in-Vec2.is (record {
      items = option_map (λ it. (counted_items it).items) c.read-in-Vec2.result;
      reads = c.read-in-Vec2.ensures.items;
      alike = c.read-in-Vec2.ensures.alike;
      written = c.write-in-Vec2.ensures;
    })

pub returns-in-Vec3 : goal.returns-in-Vec3
returns-in-Vec3 g c =
    rw c.in-Vec3.is (record {
      items = option_map (λ it. (counted_items it).items) c.read-in-Vec3.result;
      reads = c.read-in-Vec3.ensures.items;
      alike = c.read-in-Vec3.ensures.alike;
      written = c.write-in-Vec3.ensures;
    })

pub returns-in-Vec4 : goal.returns-in-Vec4
returns-in-Vec4 g c =
    rw c.in-Vec4.is (record {
      items = option_map (λ it. (counted_items it).items) c.read-in-Vec4.result;
      reads = c.read-in-Vec4.ensures.items;
      alike = c.read-in-Vec4.ensures.alike;
      written = c.write-in-Vec4.ensures;
    })

pub returns-in-Mat2 : goal.returns-in-Mat2
returns-in-Mat2 g c =
    rw c.in-Mat2.is (record {
      items = option_map (λ it. (counted_items it).items) c.read-in-Mat2.result;
      reads = c.read-in-Mat2.ensures.items;
      alike = c.read-in-Mat2.ensures.alike;
      written = c.write-in-Mat2.ensures;
    })

pub returns-in-Mat3 : goal.returns-in-Mat3
returns-in-Mat3 g c =
    rw c.in-Mat3.is (record {
      items = option_map (λ it. (counted_items it).items) c.read-in-Mat3.result;
      reads = c.read-in-Mat3.ensures.items;
      alike = c.read-in-Mat3.ensures.alike;
      written = c.write-in-Mat3.ensures;
    })

pub returns-in-Mat4 : goal.returns-in-Mat4
returns-in-Mat4 g c =
    rw c.in-Mat4.is (record {
      items = option_map (λ it. (counted_items it).items) c.read-in-Mat4.result;
      reads = c.read-in-Mat4.ensures.items;
      alike = c.read-in-Mat4.ensures.alike;
      written = c.write-in-Mat4.ensures;
    })
