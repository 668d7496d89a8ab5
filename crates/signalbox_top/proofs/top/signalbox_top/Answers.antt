use Rattle.std.proofs.Common.{rules, arith, inl}
use Rattle.signalbox_words.specs.Commands.{bytes_of, shown}
use Rattle.signalbox_top.specs.Top.{asked}
use Rattle.signalbox_words.specs.Commands.{Command}
use Rattle.signalbox_top.proofs.Asked.{asked_command, asked_is, asked_none, fault_asked, fault_of_none}
use Rattle.signalbox_top.proofs.Asked.{fault_without_memory}
use Rattle.signalbox_top.proofs.top.signalbox_top.Goals as goal

pub returns-in-Ok-Command-clause-headline : goal.returns-in-Ok-Command-clause-headline
returns-in-Ok-Command-clause-headline g c =
    λ done. asked_command _ (bytes_of c.args.words.now) (shown c.in-Ok-Command.command) _ _ _ (search rules)
    (c.serve.ensures.headline done)

pub returns-in-Ok-Shown-clause-headline : goal.returns-in-Ok-Shown-clause-headline
returns-in-Ok-Shown-clause-headline g c = λ done. asked_none _ (bytes_of c.args.words.now) _ _ _ (search rules)

pub returns-in-Ok-Command-clause-fault : goal.returns-in-Ok-Command-clause-fault
returns-in-Ok-Command-clause-fault g c =
    λ failed. fault_asked _ _ (bytes_of c.args.words.now) (shown c.in-Ok-Command.command) _ _ _ _ (search rules)
    (c.serve.ensures.fault failed)

pub returns-in-Ok-Shown-clause-fault : goal.returns-in-Ok-Shown-clause-fault
returns-in-Ok-Shown-clause-fault g c =
    λ failed. fault_of_none _ _ (bytes_of c.args.words.now) _ _ _ _ (inl (search rules))

pub returns-in-Ok-Wrong-clause-fault : goal.returns-in-Ok-Wrong-clause-fault
returns-in-Ok-Wrong-clause-fault g c =
    λ failed. fault_of_none _ _ (bytes_of c.args.words.now) _ _ _ _ (search rules)

pub returns-in-Err-clause-fault : goal.returns-in-Err-clause-fault
returns-in-Err-clause-fault g c =
    λ failed. fault_without_memory _ _ (asked (bytes_of c.args.words.now)) _ _ _ _
    (c.tell-in-Err.ensures.line (omega arith))

pub returns-in-Ok-Command-clause-worked : goal.returns-in-Ok-Command-clause-worked
returns-in-Ok-Command-clause-worked g c =
    λ wanted asks done. c.serve.ensures.worked wanted
    (asked_is (bytes_of c.args.words.now) (shown c.in-Ok-Command.command) (Command.Work wanted) (search rules) asks)
    done

pub returns-in-Ok-Command-clause-served : goal.returns-in-Ok-Command-clause-served
returns-in-Ok-Command-clause-served g c =
    λ plan asks done. c.serve.ensures.served plan
    (asked_is (bytes_of c.args.words.now) (shown c.in-Ok-Command.command) (Command.Serve plan) (search rules) asks)
    done
