use Rattle.gltf_inspect_items.proofs.found.found_at.Goals as goal

pub returns-in-U8 : goal.returns-in-U8
returns-in-U8 c = rw (c.in-Valid.is, c.in-U8.is) c.found_as.ensures

pub returns-in-U16 : goal.returns-in-U16
returns-in-U16 c = rw (c.in-Valid.is, c.in-U16.is) c.found_as-in-U16.ensures

pub returns-in-U32 : goal.returns-in-U32
returns-in-U32 c = rw (c.in-Valid.is, c.in-U32.is) c.found_as-in-U32.ensures
