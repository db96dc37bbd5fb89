pub mod ChainReading
