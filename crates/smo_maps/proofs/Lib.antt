mod KeptRows
mod MadeNames
mod Places
mod KeyLaws
mod Arms
mod GroupLaws
