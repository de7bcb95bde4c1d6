-- Noted bytes own nothing, so they may go to any thread.
use denote.Param.Send.{IsSend}
use Rattle.cloud_io.specs.contracts.given_bytes.GivenBytes.{the_row}

pub send : IsSend the_row
send = record { owned = λ d vs. ((λ vss. (tt, tt)), tt); leaving = λ k f vs. tt }
