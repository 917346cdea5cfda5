use Rattle.subsume.proofs.prune.sift_part.Goals as goal

pub returns-in-Some : goal.returns-in-Some
returns-in-Some g c = let s = rw c.in-Some.is at c.requires.column in c.sift.ensures s.0 c.args.labels.now s.1
