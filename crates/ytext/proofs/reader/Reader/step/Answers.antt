use Rattle.std.proofs.Common.{length, List, ap, ◌∙◌, ◌∷◌, arith}
use Rattle.yspec.specs.text.Token.{Token}
use Rattle.ytext.specs.Left.{token_of}
use Rattle.ytext.proofs.ReaderLemmas.{token_gone, fewer_ahead}
use Rattle.ytext.proofs.reader.Reader.step.Goals as goal

pub returns-clause-ahead : goal.returns-clause-ahead
returns-clause-ahead c =
    fewer_ahead c.next.result.0 c.next.result.1 c.args.self.now c.requires c.next.ensures.text c.next.result.1.place c.next.ensures.at c.next.ensures.later

pub returns-clause-tokens : goal.returns-clause-tokens
returns-clause-tokens c = token_gone c.args.self.now c.requires ∙ ap (λ (ts : List Token). token_of c.args.self.now.token ∷ ts) c.next.ensures.tokens

pub returns-clause-behind : goal.returns-clause-behind
returns-clause-behind c = c.next.ensures.tokens

pub invariant_of-self : goal.invariant_of-self
invariant_of-self c = record {
  small = omega (arith, ap length c.next.ensures.text);
  near = c.next.ensures.near;
  indented = c.next.ensures.indent;
}
