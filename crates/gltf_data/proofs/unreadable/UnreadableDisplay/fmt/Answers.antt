use Rattle.gltf_data.proofs.unreadable.UnreadableDisplay.fmt.Goals as goal

pub returns-in-Overlap-clause-writes : goal.returns-in-Overlap-clause-writes
returns-in-Overlap-clause-writes g c =
    rw c.in-Overlap.is c.write-in-Overlap.ensures.writes

pub returns-in-ViewPastBuffer-clause-writes : goal.returns-in-ViewPastBuffer-clause-writes
returns-in-ViewPastBuffer-clause-writes g c =
    rw c.in-ViewPastBuffer.is c.write-in-ViewPastBuffer.ensures.writes

pub returns-in-ItemsPastView-clause-writes : goal.returns-in-ItemsPastView-clause-writes
returns-in-ItemsPastView-clause-writes g c =
    rw c.in-ItemsPastView.is c.write-in-ItemsPastView.ensures.writes

pub returns-in-Overflow-clause-writes : goal.returns-in-Overflow-clause-writes
returns-in-Overflow-clause-writes g c =
    rw c.in-Overflow.is c.write-in-Overflow.ensures.writes
