use Rattle.sign_request.proofs.ReadBack.{query_pairs-escaped_text}
use Rattle.sign_request.proofs.laws.an_escaped_query_reads_back.Goals as goal

pub returns : goal.returns
returns c = query_pairs-escaped_text
