use Rattle.std.proofs.Common.{◌≡◌, ◌+◌, arith, [], ◌∷◌, ◌++◌, drop, get_or, drop-cons, append-nil, add-one, sym, subst}
use Rattle.std.proofs.lemmas.List.{drop_all}
use Rattle.fp_lex.specs.declared.token.TokenKind.TheVariants.{Name}
use Rattle.fp_lex.specs.declared.token.Token.{Token}
use Rattle.fp_syntax.specs.Words.{IsWord, no_words}
use Rattle.fp_syntax.proofs.Wording.{GoesOn, word_more}
use Rattle.fp_syntax.proofs.classify.words.Goals as goal

-- what stands for an element past the end
abbrev missing : Token
missing = record { kind = Name; from = 0; to = 0 }

pub loop-token-preserved : goal.loop-token-preserved
loop-token-preserved c =
    let bytes = c.args.bytes.now in
    let ts = c.args.tokens.now in
    let i = c.loop-token.token-index in
    let t = get_or ts i missing in
    let front : drop i ts ≡ t ∷ drop (i + 1) ts = rw (add-one i) (drop-cons ts i missing c.loop-token-test.true) in
    let is = subst (λ x. IsWord t.kind c.loop-token.is_quoted x t.from c.in_ok-word.word) c.in_ok-text.ensures c.in_ok-word.ensures in
    let more = word_more bytes c.loop-token.is_quoted ts (drop i ts) (drop (i + 1) ts) t c.in_ok-word.word c.loop-token.words.items front is c.loop-token.invariant in
    subst (λ ws. GoesOn bytes c.is_quoted_after-is_quoted.result (drop (i + 1) ts) ts ws) (sym c.in_ok-push.ensures.items)
    (subst (λ q. GoesOn bytes q (drop (i + 1) ts) ts (c.loop-token.words.items ++ record { word = c.in_ok-word.word; at = t.from } ∷ [])) (sym c.is_quoted_after-is_quoted.ensures) more)

pub returns : goal.returns
returns c = rw append-nil at (c.loop-token.invariant [] (rw (drop_all c.loop-token.token-index c.args.tokens.now (omega (arith, c.loop-token-test.false))) no_words))
