use Rattle.commands.proofs.checking.verdict_of_input.Goals as goal

pub returns-clause-verdict : goal.returns-clause-verdict
returns-clause-verdict g c = record {
  bytes = c.in_ok-bytes.bytes.items;
  read = record { all = c.in_ok-bytes.ensures.all; within = c.in_ok-bytes.ensures.within };
  verdict = c.in_ok-verdict_of_text.ensures.verdict;
}
