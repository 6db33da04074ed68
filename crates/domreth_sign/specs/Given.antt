-- A head that is given, as one to sign.
use Rattle.std.specs.Prelude.{ℕ, ◌==◌, map, Option, Some, None, if◌then◌else◌}
use Rattle.sign_base.specs.declared.head.Field.{Field}
use Rattle.sign_base.specs.declared.head.Head.{Head}
use Rattle.sign_base.specs.declared.head.Version.{Version}
use Rattle.sign_base.specs.declared.head.Version.TheVariants.{V09, V10, V11, V2, V3}
use Rattle.sigv4_core.specs.SignedHead.{field}
use Rattle.domreth_sign.specs.declared.given.GivenField.{GivenField}
use Rattle.domreth_sign.specs.declared.given.GivenHead.{GivenHead}

-- the version of HTTP with this number, which is ten times its major one and its minor one
abbrev pub version_numbered : ℕ → Option Version
version_numbered number =
    if number == 9 then Some V09
    else (if number == 10 then Some V10
    else (if number == 11 then Some V11
    else (if number == 20 then Some V2
    else (if number == 30 then Some V3 else None))))

-- a header that is given
abbrev pub field_given : GivenField → Field
field_given header = field header.name.now header.value.now

-- a head that is given, in this version
abbrev pub head_given : GivenHead → Version → Head
head_given head version =
    record {
      method = head.method.now;
      uri = head.uri.now;
      version = version;
      headers = map field_given head.headers.now;
    }
