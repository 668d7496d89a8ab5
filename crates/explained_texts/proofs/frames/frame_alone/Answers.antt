use Rattle.explained_texts.proofs.frames.frame_alone.Goals as goal

pub returns-then-has_end-clause-explained : goal.returns-then-has_end-clause-explained
returns-then-has_end-clause-explained c held front = c.not_alone.ensures held

pub returns-then-has_place-clause-explained : goal.returns-then-has_place-clause-explained
returns-then-has_place-clause-explained c held front = c.not_alone-then-has_place.ensures held
