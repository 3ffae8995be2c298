use Rattle.gltf_lenient.proofs.Unchanged.{same_documents, same_refusals, same_imports}
use Rattle.gltf_lenient.proofs.Unchanged.{same_import_refusals}
use Rattle.gltf_lenient.proofs.laws.with_nothing_to_mend_bytes_are_read_as_they_stand.Goals as goal

pub returns-clause-documents : goal.returns-clause-documents
returns-clause-documents c = same_documents

pub returns-clause-refused : goal.returns-clause-refused
returns-clause-refused c = same_refusals

pub returns-clause-imports : goal.returns-clause-imports
returns-clause-imports c = same_imports

pub returns-clause-imports_refused : goal.returns-clause-imports_refused
returns-clause-imports_refused c = same_import_refusals
