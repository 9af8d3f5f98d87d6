use Rattle.commands.proofs.LineVerdicts.{shows_short_lem}
use Rattle.commands.proofs.perform.line_reaction.Goals as goal

pub performed-requires : goal.performed-requires
performed-requires c =
    rw c.judge_line-verdict.ensures (shows_short_lem _ c.args.state.line)
