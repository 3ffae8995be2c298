use Rattle.gltf_access.proofs.flat.of_type.Goals as goal

pub returns-in-I8 : goal.returns-in-I8
returns-in-I8 g c = rw c.in-I8.is c.of_bytes.ensures

pub returns-in-U8 : goal.returns-in-U8
returns-in-U8 g c = rw c.in-U8.is c.of_bytes-in-U8.ensures

pub returns-in-I16 : goal.returns-in-I16
returns-in-I16 g c = rw c.in-I16.is c.of_halves.ensures

pub returns-in-U16 : goal.returns-in-U16
returns-in-U16 g c = rw c.in-U16.is c.of_halves-in-U16.ensures

pub returns-in-U32 : goal.returns-in-U32
returns-in-U32 g c = rw c.in-U32.is c.of_words.ensures

pub returns-in-F32 : goal.returns-in-F32
returns-in-F32 g c = rw c.in-F32.is c.of_words-in-F32.ensures
