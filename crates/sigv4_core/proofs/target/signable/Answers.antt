use Rattle.std.proofs.Common.{◌≡◌, ◌∙◌, sym, ap, true, false}
use Rattle.std.specs.Prelude.{is_some}
use Rattle.http_uri.specs.Grammar.{path_of}
use Rattle.http_uri.specs.Uri.{uri_authority, uri_data}
use Rattle.sigv4_core.specs.SignedHead.{is_refused_path}
use Rattle.sigv4_core.proofs.Targets.{by_target-no_authority, by_target-path}
use Rattle.sigv4_core.proofs.target.signable.Goals as goal

pub returns-then-not-has_authority : goal.returns-then-not-has_authority
returns-then-not-has_authority c =
    by_target-no_authority c.args.scope.now c.args.uri (sym c.has_authority.ensures ∙ c.if-not-has_authority.true)

pub returns-then-is_refused_path : goal.returns-then-is_refused_path
returns-then-is_refused_path c =
    let some : is_some (uri_authority c.args.uri) ≡ true = sym c.has_authority.ensures ∙ c.if-not-has_authority.false in
    let path : is_refused_path c.args.scope.now (path_of (uri_data c.args.uri)) ≡ true =
    ap (λ text. is_refused_path c.args.scope.now text) (sym c.path_of.ensures) ∙ (sym c.is_refused_path.ensures ∙ c.if-is_refused_path.true) in
    by_target-path c.args.scope.now c.args.uri true some path

pub returns : goal.returns
returns c =
    let some : is_some (uri_authority c.args.uri) ≡ true = sym c.has_authority.ensures ∙ c.if-not-has_authority.false in
    let path : is_refused_path c.args.scope.now (path_of (uri_data c.args.uri)) ≡ false =
    ap (λ text. is_refused_path c.args.scope.now text) (sym c.path_of.ensures) ∙ (sym c.is_refused_path.ensures ∙ c.if-is_refused_path.false) in
    by_target-path c.args.scope.now c.args.uri false some path
