pub mod DerivedKeys
