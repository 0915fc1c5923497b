use Rattle.std.proofs.Common.{◌≡◌, pos, IfSome}
use Rattle.std.specs.Fd.{file_raw_fd}
use Rattle.standard_streams.proofs.StandardStreams.new.Given as goal

abbrev pub invariant-loop : goal.invariant-loop
invariant-loop g l = record {
  input : IfSome l.streams.input (λ file. file_raw_fd file ≡ pos 0);
  output : IfSome l.streams.output (λ file. file_raw_fd file ≡ pos 1);
  errors : IfSome l.streams.errors (λ file. file_raw_fd file ≡ pos 2);
}
