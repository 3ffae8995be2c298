use Rattle.gltf_lenient.proofs.Unchanged.{same_files, same_file_refusals, same_readings}
use Rattle.gltf_lenient.proofs.Unchanged.{same_reading_refusals}
use Rattle.gltf_lenient.proofs.laws.where_nothing_is_mended_files_are_read_as_they_stand.Goals as goal

pub returns-clause-files : goal.returns-clause-files
returns-clause-files c = same_files

pub returns-clause-files_refused : goal.returns-clause-files_refused
returns-clause-files_refused c = same_file_refusals

pub returns-clause-readings : goal.returns-clause-readings
returns-clause-readings c = same_readings

pub returns-clause-readings_refused : goal.returns-clause-readings_refused
returns-clause-readings_refused c = same_reading_refusals
