use Rattle.std.proofs.Common.{ap, ◌∙◌, ◌++◌}
use Rattle.line_words.proofs.LineWords.{line-with_newline}
use Rattle.signctl_format.specs.Lines.{cache_line}
use Rattle.signctl_grant.proofs.NextLine.{as_seen, caches-fit, cache-out_of_memory, cache-number, next-cache}
use Rattle.signctl_grant.proofs.grant_session.GrantSession.answer_cache.Goals as goal

pub add_cache-requires : goal.add_cache-requires
add_cache-requires c = caches-fit _ c.requires.0 (as_seen _ _ c.requires.0 c.self.view_is c.requires.1) c.requires.3

pub out_of_memory-requires : goal.out_of_memory-requires
out_of_memory-requires c =
    cache-out_of_memory _ c.requires.0 (as_seen _ _ c.requires.0 c.self.view_is c.requires.1) c.args.loader c.in-Err.refusal c.requires.2 c.in-Err.ensures.answer

pub returns : goal.returns
returns c = λ items stands good.
    let here = as_seen _ _ items c.self.view_is stands in (
      next-cache _ items here _ c.args.loader good c.in-Ok.ensures.added c.in-Ok.ensures.fresh,
      line-with_newline _ _ _ (cache_line _)
          (c.in_ok-push_cache-in-Ok.ensures.ok ∙ ap (λ n. c.args.text.now.items ++ cache_line n) (c.from.ensures ∙ cache-number _ items here c.args.loader c.in-Ok.number good c.in-Ok.ensures.answer))
          c.in_ok-end_line.ensures,
    )
