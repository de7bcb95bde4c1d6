-- Passes, news and fronts over a log may cross threads.
use denote.Builtin.{u32}
use denote.Param.Send.{IsSend, IsSync}
use Rattle.batch_front.proofs.Sent.{pass_send, news_send, front_sync}
use Rattle.batch_front.specs.contracts.pass.Pass as Pass
use Rattle.batch_front.specs.contracts.pass.News as News
use Rattle.batch_front.specs.contracts.front.Front as Front
use Rattle.worked_turns.specs.contracts.log.Log as Log
use Rattle.worked_turns.specs.contracts.log.LogChronicle.TheImpl.{ghosts}
use Rattle.worked_turns.proofs.log.Log.TheSendSync.{the_send}

pub log_pass_send : IsSend (Pass.the_row Log.the_row u32 ghosts)
log_pass_send = pass_send Log.the_row u32 ghosts the_send

pub log_news_send : IsSend (News.the_row Log.the_row u32 ghosts)
log_news_send = news_send Log.the_row u32 ghosts the_send

pub log_front_sync : IsSync (Front.the_row Log.the_row u32 ghosts)
log_front_sync = front_sync Log.the_row u32 ghosts the_send

pub ruleset turns_cross = (log_pass_send, log_news_send, log_front_sync)
