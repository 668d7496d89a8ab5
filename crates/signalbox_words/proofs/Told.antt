-- Words of which a text is told.
use Rattle.std.proofs.Common.{◌≡◌, true, inl}
use Rattle.clap.specs.Words.{Text, takes}
use Rattle.clap.specs.declared.error.kind.ErrorKind.{ErrorKind}
use Rattle.clap.specs.declared.error.kind.ErrorKind.TheVariants as kinds
use Rattle.std.specs.Prelude.{List}
use Rattle.signalbox_words.specs.Commands.{AreRead, TellsFault}
use Rattle.signalbox_words.specs.Table.{program}
use Rattle.signalbox_words.specs.declared.reading.Words.{Words}
use Rattle.signalbox_words.specs.declared.reading.Words.TheVariants as words

-- clap doesn't take words of which a fault is told, where want of memory is the only one at words that it takes
pub not_taken : (texts : List Text) (kind : ErrorKind) (told : Words)
    → (takes program texts ≡ true → kind ≡ kinds.OutOfMemory) → TellsFault kind told → AreRead texts told
not_taken texts kind (words.Command command) passes tells = absurd tells
not_taken texts kind (words.Shown text) passes tells = λ taken. tells (passes taken)
not_taken texts kind (words.Wrong text) passes tells = inl (λ taken. tells (passes taken))
