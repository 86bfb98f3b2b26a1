use Rattle.layout.proofs.Exact.{token_law}
use Rattle.layout.proofs.Longest.{longest_law}
use Rattle.layout.proofs.checking.check.Goals as goal

pub returns-in_err-head-clause-exact : goal.returns-in_err-head-clause-exact
returns-in_err-head-clause-exact g c = token_law

pub returns-in_err-head-clause-longest : goal.returns-in_err-head-clause-longest
returns-in_err-head-clause-longest g c = longest_law

pub returns-in-Some-clause-exact : goal.returns-in-Some-clause-exact
returns-in-Some-clause-exact g c = token_law

pub returns-in-Some-clause-longest : goal.returns-in-Some-clause-longest
returns-in-Some-clause-longest g c = longest_law

pub returns-then-publication-ge-PUBLICATIONS-clause-exact : goal.returns-then-publication-ge-PUBLICATIONS-clause-exact
returns-then-publication-ge-PUBLICATIONS-clause-exact g c = token_law

pub returns-then-publication-ge-PUBLICATIONS-clause-longest : goal.returns-then-publication-ge-PUBLICATIONS-clause-longest
returns-then-publication-ge-PUBLICATIONS-clause-longest g c = longest_law

pub returns-then-second-publication-clause-exact : goal.returns-then-second-publication-clause-exact
returns-then-second-publication-clause-exact g c = token_law

pub returns-then-second-publication-clause-longest : goal.returns-then-second-publication-clause-longest
returns-then-second-publication-clause-longest g c = longest_law

pub returns-clause-exact : goal.returns-clause-exact
returns-clause-exact g c = token_law

pub returns-clause-longest : goal.returns-clause-longest
returns-clause-longest g c = longest_law
