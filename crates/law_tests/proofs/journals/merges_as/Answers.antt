use Rattle.law_tests.proofs.journals.merges_as.Goals as goal

pub of_journal-requires : goal.of_journal-requires
of_journal-requires c = record { boxes = λ e other within. (c.requires.spelled e other within).box }
