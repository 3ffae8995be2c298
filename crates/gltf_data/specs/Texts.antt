-- The texts of reasons why an accessor cannot be read.
use Rattle.std.specs.Prelude.{ℕ, List, ◌++◌, codes}
use Rattle.std.specs.Fmt.{decimal}
use Rattle.gltf_data.specs.declared.unreadable.Part.{Part}
use Rattle.gltf_data.specs.declared.unreadable.Part.TheVariants.{Items, SparseIndices}
use Rattle.gltf_data.specs.declared.unreadable.Part.TheVariants.{SparseValues}
use Rattle.gltf_data.specs.declared.unreadable.Unreadable.{Unreadable}
use Rattle.gltf_data.specs.declared.unreadable.Unreadable.TheVariants.{ItemSize, NoView, NoItems}
use Rattle.gltf_data.specs.declared.unreadable.Unreadable.TheVariants.{Overlap, NoBufferData}
use Rattle.gltf_data.specs.declared.unreadable.Unreadable.TheVariants.{ViewPastBuffer, Overflow}
use Rattle.gltf_data.specs.declared.unreadable.Unreadable.TheVariants.{ItemsPastView}

abbrev pub part_text : Part → List ℕ
part_text Items = codes "items"
part_text SparseIndices = codes "sparse indices"
part_text SparseValues = codes "sparse values"

abbrev pub text_of : Unreadable → List ℕ
text_of (ItemSize wanted found) =
    codes "the accessor's items have " ++ (decimal found ++ (codes " bytes, not "
    ++ decimal wanted))
text_of NoView = codes "the accessor has neither a view nor a sparse part"
text_of (NoItems part) = codes "the count of the " ++ (part_text part ++ codes " is 0")
text_of (Overlap part stride size) =
    codes "the " ++ (part_text part ++ (codes " overlap: each has " ++ (decimal size
    ++ (codes " bytes, at a stride of " ++ decimal stride))))
text_of (NoBufferData part buffer) =
    codes "no bytes were given for buffer " ++ (decimal buffer
    ++ (codes " of the " ++ part_text part))
text_of (ViewPastBuffer part offset length available) =
    codes "the view of the " ++ (part_text part ++ (codes " has " ++ (decimal length
    ++ (codes " bytes from byte " ++ (decimal offset ++ (codes " on, but its buffer has "
    ++ decimal available))))))
text_of (ItemsPastView part end length) =
    codes "the " ++ (part_text part ++ (codes " end at byte " ++ (decimal end
    ++ (codes " of a view of " ++ (decimal length ++ codes " bytes")))))
text_of (Overflow part offset stride count size) =
    codes "the " ++ (part_text part ++ (codes " end past 2^64: " ++ (decimal count
    ++ (codes " of " ++ (decimal size ++ (codes " bytes, at a stride of " ++ (decimal stride
    ++ (codes " from byte " ++ (decimal offset ++ codes " on")))))))))
