use Rattle.gltf_options.proofs.file.from_bytes_with.Goals as goal

pub returns-in-Borrowed-clause-only : goal.returns-in-Borrowed-clause-only
returns-in-Borrowed-clause-only c = rw c.in-Borrowed.is c.from_slice_with.ensures.only

pub returns-in-Borrowed-clause-exact : goal.returns-in-Borrowed-clause-exact
returns-in-Borrowed-clause-exact c = rw c.in-Borrowed.is c.from_slice_with.ensures.exact

pub returns-in-Owned-clause-only : goal.returns-in-Owned-clause-only
returns-in-Owned-clause-only c = rw c.in-Owned.is c.from_vec_with.ensures.only

pub returns-in-Owned-clause-exact : goal.returns-in-Owned-clause-exact
returns-in-Owned-clause-exact c = rw c.in-Owned.is c.from_vec_with.ensures.exact

pub returns-in-Owned-clause-moved : goal.returns-in-Owned-clause-moved
returns-in-Owned-clause-moved c = rw c.in-Owned.is c.from_vec_with.ensures.moved
